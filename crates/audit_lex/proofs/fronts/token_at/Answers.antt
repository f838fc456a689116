use Rattle.std.proofs.Common.{◌≡◌, ◌∙◌, sym, Bool, true, false, None, drop}
use Rattle.audit_lex.specs.Tokens.{token_at, token_len}
use Rattle.audit_lex.proofs.TokenLemmas.{IsFront, from, bare_token, named_front, sign_goes_on, lent_token}
use Rattle.audit_lex.proofs.fronts.token_at.Goals as goal

clash : {A : Type 0} {test : Bool} → test ≡ true → test ≡ false → A
clash is isnt = cc

bare : (c : goal.After-result-then-not-is_value-3-1) → (None ≡ token_at c.args.text.now) × (from c.len_of_name-len.result c.args.text.now ≡ drop (token_len c.args.text.now) c.args.text.now)
bare c = bare_token c.args.text.now c.len_of_name-len.result c.len_of_name-len.ensures.len (λ sign. clash (c.is_value.ensures.1 sign) c.if-not-is_value.true)

named : (c : goal.After-result-2-1) → IsFront c.args.text.now c.len_of_name-len.result c.len_of_value-end.result
named c = named_front c.args.text.now c.len_of_name-len.result c.len_of_value-end.result c.len_of_name-len.ensures.len
    (sign_goes_on c.args.text.now c.len_of_name-len.result c.len_of_name-len.ensures.len (c.is_value.ensures.0 c.if-not-is_value.false)) c.len_of_value-end.ensures.len

pub returns-then-not-is_value-clause-token : goal.returns-then-not-is_value-clause-token
returns-then-not-is_value-clause-token c = (bare c).0

pub returns-then-not-is_value-clause-rest : goal.returns-then-not-is_value-clause-rest
returns-then-not-is_value-clause-rest c = (bare c).1

pub returns-clause-token : goal.returns-clause-token
returns-clause-token c = lent_token _ _ (named c).some ∙ sym (named c).token

pub returns-clause-rest : goal.returns-clause-rest
returns-clause-rest c = (named c).rest
