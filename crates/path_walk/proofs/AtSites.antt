-- Operators at their sites, and the smaller or larger of two values.
use Rattle.std.proofs.Common.{◌≡◌, Bool, true, false, cond, sym, ap, subst, ◌∙◌}
use Rattle.std.specs.Prelude.{Result, Ok, Err, IsErr, IsErrAnd}
use Rattle.semantics.specs.Core.{Site}
use Rattle.semantics.specs.Word.{Kind, Operator, Less}
use Rattle.facts.specs.declared.error.WalkError.{WalkError}
use Rattle.facts.specs.Symbols.{Fact, minus}
use Rattle.walk_trees.specs.Trees.{Tree}
use Rattle.walk_trees.specs.Values.{Value}
use Rattle.walk_trees.specs.Walks.{Setting, State, Onward, spot_at, at_site, both_brought}
use Rattle.walk_trees.specs.Operators.{binary}
use Rattle.walk_trees.specs.Tests.{split}
use Rattle.walk_trees.specs.Joined.{pick_joined}
use Rattle.walk_trees.specs.Terms.{chosen, pick, pick_split, is_joined_pick}
use Rattle.path_steps.specs.Paths.{Followed, collect, with_spot}
use Rattle.path_steps.specs.Leads.{Steps, Leads, LeadsTwo}
use Rattle.path_steps.specs.Refusals.{StopsAtStep, Stops, StopsTwo}
use Rattle.path_steps.specs.Halts.{Halts}
use Rattle.path_steps.specs.declared.halt.Halt.{Halt}
use Rattle.path_steps.specs.declared.halt.Halt.TheVariants as halts
use Rattle.path_steps.proofs.Refusing.{refused_from}
use Rattle.path_steps.proofs.Testing.{ended_from, halted}
use Rattle.path_walk.specs.Parts.{binary_at}
use Rattle.path_walk.proofs.Then.{Says}
use Rattle.path_walk.proofs.Operating.{in_turn, turn_stops, turn_stops_behind}

-- an operator with one operand, or a conversion
module _ {E A : Type 0} (walk : State E → (A → State E → Tree E) → Tree E) (site : Site) (l m n : Followed E) (d : m ≡ with_spot l (spot_at site l.state)) where
  pub site_leads : (v : A) → Leads m n walk v → Leads l n (λ st go. walk (at_site site st) go) v
  site_leads v h = subst (λ u. Leads u n walk v) d h

  pub site_stops : {T : Type 0} (view : T → A) (r : Result T Halt) (e : WalkError) → IsErr r × IsErrAnd r (λ h. h ≡ halts.Refused e) → Stops m e walk → Says l n (λ st go. walk (at_site site st) go) view r
  site_stops view r e i h = halted r (halts.Refused e) _ _ i (subst (λ u. Stops u e walk) d h)

-- a step, and the same answer behind it
module _ {E A : Type 0} (step : State E → (State E → Tree E) → Tree E) (site : Site) (v : A) (l m n : Followed E) (d : m ≡ with_spot l (spot_at site l.state)) where
  abbrev pub stepped : State E → (A → State E → Tree E) → Tree E
  stepped st go = step (at_site site st) (λ st'. go v st')

  pub step_leads : Steps m n step → Leads l n stepped v
  step_leads h = subst (λ u. Leads u n (λ st go. step st (λ st'. go v st')) v) d (λ go. h (λ st'. go v st'))

  pub step_refused : {T : Type 0} (view : T → A) (r : Result T Halt) (e : WalkError) → IsErr r × IsErrAnd r (λ h. h ≡ halts.Refused e) → StopsAtStep m e step → Says l n stepped view r
  step_refused view r e i h = halted r (halts.Refused e) _ _ i (subst (λ u. Stops u e (λ st go. step st (λ st'. go v st'))) d (λ go. h (λ st'. go v st')))

-- a step with an answer that is refused, or what follows of it
module _ {E A B T : Type 0} (one : State E → (A → State E → Tree E) → Tree E) (two : A → State E → (B → State E → Tree E) → Tree E) where
  pub turn_refused : (l n : Followed E) (view : T → B) (r : Result T Halt) (e : WalkError) → IsErr r × IsErrAnd r (λ h. h ≡ halts.Refused e) → Stops l e one → Says l n (in_turn one two) view r
  turn_refused l n view r e i h = halted r (halts.Refused e) _ _ i (turn_stops one two l e h)

  pub turn_refused_behind : (a : A) (l m n : Followed E) (view : T → B) (r : Result T Halt) (e : WalkError) → IsErr r × IsErrAnd r (λ h. h ≡ halts.Refused e) → Leads l m one a → Stops m e (two a) → Says l n (in_turn one two) view r
  turn_refused_behind a l m n view r e i p h = halted r (halts.Refused e) _ _ i (turn_stops_behind one two a l m e p h)

-- an operator with two
module _ {E : Type 0} (s : Setting E) (op : Operator) (k : Kind) (site : Site) (x y x' y' : Value) (l m n o : Followed E) where
  both : m ≡ with_spot l (spot_at site l.state) → LeadsTwo m n (both_brought s k x y) x' y' → (go : Onward E) → collect l.found (binary_at s op k site x y l.state go) ≡ collect n.found (binary s op k x'.form y'.form n.state go)
  both d a go =
      ap (λ (u : Followed _). collect u.found (both_brought s k x y u.state (λ v w st. binary s op k v.form w.form st go))) (sym d)
      ∙ a (λ v w st. binary s op k v.form w.form st go)

  pub binary_leads : (v : Value) → m ≡ with_spot l (spot_at site l.state) → LeadsTwo m n (both_brought s k x y) x' y' → Leads n o (binary s op k x'.form y'.form) v → Leads l o (binary_at s op k site x y) v
  binary_leads v d a b go = both d a go ∙ b go

  pub binary_stops : {T : Type 0} (view : T → Value) (r : Result T Halt) (e : WalkError) → m ≡ with_spot l (spot_at site l.state) → IsErr r × IsErrAnd r (λ h. h ≡ halts.Refused e) → LeadsTwo m n (both_brought s k x y) x' y' → Stops n e (binary s op k x'.form y'.form) → Says l o (binary_at s op k site x y) view r
  binary_stops view r e d i a b = halted r (halts.Refused e) _ _ i (λ go. refused_from e _ _ (both d a go) (b go))

pub both_stop : {E T : Type 0} (s : Setting E) (op : Operator) (k : Kind) (site : Site) (x y : Value) (l m n : Followed E) (view : T → Value) (r : Result T Halt) (e : WalkError) → m ≡ with_spot l (spot_at site l.state) → IsErr r × IsErrAnd r (λ h. h ≡ halts.Refused e) → StopsTwo m e (both_brought s k x y) → Says l n (binary_at s op k site x y) view r
both_stop {E} s op k site x y l m n view r e d i h =
    let walk : State E → Onward E → Tree E = λ st go. both_brought s k x y st (λ v w st'. binary s op k v.form w.form st' go) in
    site_stops walk site l m n d view r e i (λ go. h (λ v w st. binary s op k v.form w.form st go))

-- the smaller or the larger of two values, each on a way of its own
module _ {E : Type 0} (s : Setting E) (x y second first : Value) (l m : Followed E) where
  pub picks : (b c : Bool) → Leads l m (split s s.is_wide Less x.form y.form) b → b ≡ c → Leads l m (pick_split s x y second first) (chosen c second first)
  picks b c a d go = a (λ h st. go (chosen h second first) st) ∙ ap (λ h. collect m.found (go (chosen h second first) m.state)) d

  pub pick_halts : {T : Type 0} (view : T → Value) (r : Result T Halt) (h : Halt) → IsErr r × IsErrAnd r (λ e. e ≡ h) → Halts l m h (split s s.is_wide Less x.form y.form) → Says l m (pick_split s x y second first) view r
  pick_halts view r h i a = halted r h _ _ i (λ go. a (λ b st. go (chosen b second first) st))

-- the differences of two values whose ways are joined
abbrev pub ArePicked : {E : Type 0} → Setting E → (x y : Value) → State E → (more less : Fact) → Type 0
ArePicked s x y st more less = (is_joined_pick s x y st ≡ true) × (more ≡ minus y.form x.form) × (less ≡ minus x.form y.form)

-- joined, or not
module _ {E : Type 0} (s : Setting E) (g : Bool) (x y second first : Value) (l m : Followed E) where
  pub joined_picks : (v : Value) → is_joined_pick s x y l.state ≡ true → Leads l m (pick_joined s g x.kind x.form y.form) v → Leads l m (pick s g x y second first) v
  joined_picks v d a go = ap (λ b. collect l.found (cond b (pick_joined s g x.kind x.form y.form l.state go) (pick_split s x y second first l.state go))) d ∙ a go

  pub joined_pick_stops : {T : Type 0} (view : T → Value) (r : Result T Halt) (e : WalkError) → is_joined_pick s x y l.state ≡ true → IsErr r × IsErrAnd r (λ h. h ≡ halts.Refused e) → Stops l e (pick_joined s g x.kind x.form y.form) → Says l m (pick s g x y second first) view r
  joined_pick_stops view r e d i a = halted r (halts.Refused e) _ _ i (λ go. refused_from e _ _ (ap (λ b. collect l.found (cond b (pick_joined s g x.kind x.form y.form l.state go) (pick_split s x y second first l.state go))) d) (a go))

  pub parted_picks : {T : Type 0} (view : T → Value) (r : Result T Halt) → is_joined_pick s x y l.state ≡ false → Says l m (pick_split s x y second first) view r → Says l m (pick s g x y second first) view r
  parted_picks view (Ok v) d a = λ go. ap (λ b. collect l.found (cond b (pick_joined s g x.kind x.form y.form l.state go) (pick_split s x y second first l.state go))) d ∙ a go
  parted_picks view (Err h) d a = λ go. ended_from m.found h _ _ (ap (λ b. collect l.found (cond b (pick_joined s g x.kind x.form y.form l.state go) (pick_split s x y second first l.state go))) d) (a go)
