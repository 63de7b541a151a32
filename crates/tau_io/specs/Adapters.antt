-- What a contract sees of a source over a reader and of a sink over a writer.
use Rattle.std.specs.Prelude.{ℕ}
use Rattle.tau_io.specs.declared.standard.ReaderSource.{ReaderSource}
use Rattle.tau_io.specs.declared.standard.WriterSink.{WriterSink}

-- the reader of a source, and the count of the source's faults
abbrev pub reader_of : {R : Type 0} → ReaderSource R → R
reader_of s = s.reader

abbrev pub read_faults : {R : Type 0} → ReaderSource R → ℕ
read_faults s = s.faults

-- the writer of a sink, and the count of the sink's faults
abbrev pub writer_of : {W : Type 0} → WriterSink W → W
writer_of s = s.writer

abbrev pub write_faults : {W : Type 0} → WriterSink W → ℕ
write_faults s = s.faults
