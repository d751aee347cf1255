-- That a store keeps what buffers hold has one proof at most.
use Rattle.std.specs.Prelude.{ℕ, zero, suc, ◌≡◌, ℤ, List, Bool, true, false}
use Rattle.semantics.specs.Setup.{Setup}
use Rattle.semantics.specs.Ask.{Ask, Loads, Stores, Goes, Waits, Rests}
use Rattle.semantics.specs.Conditions.{Content, IsBounded}
use Rattle.semantics.specs.Contents.{HoldsIn, StoresKept}
use Rattle.std.proofs.Props.{props}

bounded-prop : (is_upper : Bool) (sum z : ℤ) → IsProp (IsBounded is_upper sum z)
bounded-prop true sum z = Prim.hlevel props
bounded-prop false sum z = Prim.hlevel props

held-prop : (s : Setup) (cs : List Content) (owner array : ℕ) (z : ℤ) → IsProp (HoldsIn s cs owner array z)
held-prop s cs zero array z = Prim.hlevel (bounded-prop, props)
held-prop s cs (suc g) array z = Prim.hlevel props

pub stores_kept-prop : (s : Setup) (cs : List Content) (a : Ask) → IsProp (StoresKept s cs a)
stores_kept-prop s cs (Loads at kind site) = Prim.hlevel props
stores_kept-prop s cs (Stores at site value next) = held-prop s cs at.owner at.array value
stores_kept-prop s cs (Goes next) = Prim.hlevel props
stores_kept-prop s cs (Waits next) = Prim.hlevel props
stores_kept-prop s cs Rests = Prim.hlevel props
