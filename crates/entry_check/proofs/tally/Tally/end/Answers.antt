use Rattle.std.proofs.Common.{rules, ◌≡◌, subst}
use Rattle.std.specs.Prelude.{Some, None, true, false}
use Rattle.entry_check.specs.Entries.{is_past}
use Rattle.entry_check.specs.Supplied.{ahead}
use Rattle.entry_check.specs.Tallies.{IsVerdict}
use Rattle.entry_check.proofs.Ending.{all_pass, are_shown, few_taken, no_memory, past_is}
use Rattle.entry_check.proofs.tally.Tally.end.Goals as goal

pub returns-in-Some : goal.returns-in-Some
returns-in-Some c = record {
  ends = λ s es fit os fs w.
      let t = c.args.self in
      let v : IsVerdict s es fit os fs t.count t.supply (Some c.in-Some.error) = subst (λ z. IsVerdict s es fit os fs t.count t.supply z) c.in-Some.is w.verdict in
      (few_taken s es fit os fs t w, v);
}

pub returns-then-branch : goal.returns-then-branch
returns-then-branch c = record {
  ends = λ s es fit os fs w.
      let t = c.args.self in
      let e : t.stopped ≡ None = search rules in
      let v : IsVerdict s es fit os fs t.count t.supply None = subst (λ z. IsVerdict s es fit os fs t.count t.supply z) e w.verdict in
      let b : true ≡ is_past (ahead t.supply) t.count = search rules in
      (few_taken s es fit os fs t w, (v.0, (all_pass s es fit os fs t w t.supply v.1, past_is s es fit os fs t w t.supply v.1 true b)));
}

pub returns : goal.returns
returns c = record {
  ends = λ s es fit os fs w.
      let t = c.args.self in
      let e : t.stopped ≡ None = search rules in
      let v : IsVerdict s es fit os fs t.count t.supply None = subst (λ z. IsVerdict s es fit os fs t.count t.supply z) e w.verdict in
      let b : false ≡ is_past (ahead t.supply) t.count = search rules in
      (few_taken s es fit os fs t w, (v.0, are_shown s es fit os fs t w t.supply v.1, (all_pass s es fit os fs t w t.supply v.1, past_is s es fit os fs t w t.supply v.1 false b)));
}

pub returns-in_err-has_past : goal.returns-in_err-has_past
returns-in_err-has_past c = record {
  ends = λ s es fit os fs w. (few_taken s es fit os fs c.args.self w, no_memory s es fit os fs c.from_residual.result c.from_residual.ensures.1);
}
