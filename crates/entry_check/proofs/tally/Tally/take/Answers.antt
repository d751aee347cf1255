use Rattle.std.proofs.Common.{rules, arith, ◌≡◌, ◌<◌, ◌+◌, sym, ap, subst}
use Rattle.std.specs.Prelude.{None}
use Rattle.entry_check.specs.Hand.{fits_at, obligation_at}
use Rattle.entry_check.specs.Tallies.{IsVerdict}
use Rattle.entry_check.specs.View.{said}
use Rattle.entry_check.proofs.Stepping.{looks, next_one, stays, taken}
use Rattle.entry_check.proofs.tally.Tally.take.Goals.{then-is_none+in-Ok, then-is_none+in-Err, else-is_none}
use Rattle.entry_check.proofs.tally.Tally.take.Goals as goal

pub returns-clause-takes : goal.returns-clause-takes
returns-clause-takes g c = λ es fit os fs us bs w.
    let s = said c.args.asked.now.said.now in
    let o = obligation_at g.D.Domain c.args.asked.now.premises c.args.met.now c.args.owed in
    let b = fits_at c.args.met.now c.args.owed in
    let t = c.args.self.now in
    let m = c.if-is_none.self in
    let few : t.count < 65536 = omega (arith, c.if-self-ge65536.false) in
    elim c.if-is_none.branch [
      | then-is_none+in-Ok x ↦
          let e : t.stopped ≡ None = search rules in
          let l = looks s es fit os fs o b us bs t w e in
          let z : IsVerdict s es fit os fs (t.count + 1) x.show_next.new.supply t.stopped = subst (λ z. IsVerdict s es fit os fs (t.count + 1) x.show_next.new.supply z) (sym e) (l.0, x.in-Ok.ensures.on es os fs l.1 (next_one s es fit os fs o b us bs t w)) in
          let v : IsVerdict s es fit os fs (t.count + 1) m.supply m.stopped = subst (λ q. IsVerdict s es fit os fs (t.count + 1) q.supply q.stopped) (sym x.self-is) z in
          taken s es fit os fs o b us bs t w m few (ap (λ q. q.count) x.self-is) v
      | then-is_none+in-Err x ↦
          let e : t.stopped ≡ None = search rules in
          let l = looks s es fit os fs o b us bs t w e in
          let v : IsVerdict s es fit os fs (t.count + 1) m.supply m.stopped = subst (λ q. IsVerdict s es fit os fs (t.count + 1) q.supply q.stopped) (sym x.self-is) (x.in-Err.ensures.stops es fit os fs l.0 l.1 (next_one s es fit os fs o b us bs t w)) in
          taken s es fit os fs o b us bs t w m few (ap (λ q. q.count) x.self-is) v
      | else-is_none x ↦
          let n : (t.stopped ≡ None) → ⊥ = search rules in
          let v : IsVerdict s es fit os fs (t.count + 1) m.supply m.stopped = subst (λ q. IsVerdict s es fit os fs (t.count + 1) q.supply q.stopped) (sym x.self-is) (stays s es fit os fs t.count (t.count + 1) t.supply t.supply t.stopped n w.verdict) in
          taken s es fit os fs o b us bs t w m few (ap (λ q. q.count) x.self-is) v
    ]
