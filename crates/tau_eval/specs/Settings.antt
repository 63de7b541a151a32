-- The plain data that a setting of the program stands for.
use Rattle.tau_value.specs.Value.{val_of}
use Rattle.tau_eval.specs.Meaning as meaning
use Rattle.tau_eval.specs.declared.settings.Setting.{Setting}

abbrev pub setting_of : Setting → meaning.Setting
setting_of s = record { nodes = s.nodes; own = s.own; message = val_of s.message.now }
