use Rattle.std.proofs.Common.{sym, subst}
use Rattle.std.specs.List.{All}
use Rattle.std.proofs.lemmas.List.Elements.{All-append, All-weaker}
use Rattle.tau_sexpr.specs.Bytes.{IsTextByte}
use Rattle.tau_sexpr.proofs.KindLemmas.{plain_text}
use Rattle.tau_sexpr.proofs.PlaceLemmas.{plains_read}
use Rattle.tau_sexpr.proofs.reader.put_plain.Goals as goal

pub returns-clause-text_bytes : goal.returns-clause-text_bytes
returns-clause-text_bytes c =
    λ h. subst (All IsTextByte) (sym c.in_ok-extend_from_slice.ensures.items) (All-append IsTextByte _ _ h (All-weaker _ IsTextByte plain_text _ c.plain_end-end.ensures.plain))

pub returns-clause-read : goal.returns-clause-read
returns-clause-read c = λ s.
    plains_read c.args.bytes.now c.args.at c.plain_end-end.result c.plain_end-end.ensures.least c.plain_end-end.ensures.most c.plain_end-end.ensures.plain
    c.args.text.now.items c.extend_from_slice.new.self.items c.in_ok-extend_from_slice.ensures.items s
