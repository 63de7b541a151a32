pub mod Arguments
pub mod Commands
pub mod Numbers
pub mod Storms
