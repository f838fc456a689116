use Rattle.std.proofs.Common.{◌∙◌, sym, take, arith}
use Rattle.std.proofs.lemmas.Bool.{leb-true}
use Rattle.std.proofs.lemmas.Simd.{length-chunk}
use Rattle.std.proofs.lemmas.List.{take-take}
use Rattle.audit_lex.proofs.AlikeLemmas.{alike_by_mask}
use Rattle.audit_lex.proofs.near.begins_alike.Goals as goal

pub returns : goal.returns
returns c = λ found.
    sym (take-take c.args.len 32 c.args.text.now c.requires.len)
    ∙ alike_by_mask (take 32 c.args.text.now) c.args.bytes.now c.args.len (length-chunk 0 32 c.args.text.now c.requires.text) (omega arith) c.requires.len (leb-true _ _ found)
