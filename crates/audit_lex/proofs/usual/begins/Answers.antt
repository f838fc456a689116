use Rattle.std.proofs.Common.{◌-◌, subst}
use Rattle.std.proofs.lemmas.Bool.Decides.{Decides-eqb}
use Rattle.std.proofs.lemmas.Slice.Eq.{starts_is}
use Rattle.std.specs.Option.{option_and_then}
use Rattle.audit_lex.specs.Fronts.{IsUsual}
use Rattle.audit_lex.specs.TablePlaces.{place_in}
use Rattle.audit_lex.proofs.UsualLemmas.{usual_is}
use Rattle.audit_lex.proofs.usual.begins.Goals as goal

pub returns : goal.returns
returns g c =
    let kind = c.args.kind in
    let text = c.args.text.now in
    let front = c.args.front.now in
    let begun = c.if-not-starts_with.false in
    let split = (starts_is Decides-eqb text front c.starts_with.result c.starts_with.ensures.value).0 begun in
    let usual = usual_is kind text front _ c.args.field split (c.starts_with.ensures.bound begun) c.requires in
    rw c.place_of_some.ensures (subst (λ n. IsUsual kind text (record { len = n - 1; place = option_and_then (place_in kind) c.args.field })) c.told-front usual)
