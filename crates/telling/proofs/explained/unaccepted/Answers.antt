use Rattle.std.proofs.Common.{◌≡◌, ap, ◌∙◌, subst}
use Rattle.std.specs.Prelude.{IfSome}
use Rattle.std.specs.String.{string_bytes}
use Rattle.cert_check.specs.Numbers.{error_number}
use Rattle.telling.specs.Refusals.{refusal_line, place_seen}
use Rattle.telling.proofs.ProvingMeanings.{explains_check}
use Rattle.telling.proofs.explained.unaccepted.Goals as goal

pub returns-in-Some : goal.returns-in-Some
returns-in-Some c = λ is_wide kernel conditions certificate h.
    let e = c.args.error.now in
    let told : string_bytes c.in-Some.told ≡ refusal_line c.number-number.result (place_seen c.place.result) =
    subst (λ o. IfSome o (λ line. string_bytes line ≡ refusal_line c.number-number.result (place_seen c.place.result))) c.in-Some.is c.told.ensures in
    let line = told ∙ ap (λ n. refusal_line n (place_seen c.place.result)) c.number-number.ensures ∙ ap (λ p. refusal_line (error_number e) (place_seen p)) c.place.ensures in
    explains_check is_wide kernel conditions certificate (string_bytes c.in-Some.told) e c.going_on.result h line c.going_on.ensures
