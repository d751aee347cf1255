-- One step of what counts its steps.
use Rattle.std.proofs.Common.{◌≡◌, ℕ, zero, suc, List, [], refl, ap, sym, ◌∙◌, arith}
use Rattle.std.specs.Prelude.{Err, Option}
use Rattle.semantics.specs.Core.{Site}
use Rattle.opencl_tokens.specs.Tokens.{Token}
use Rattle.opencl_macros.specs.Macros.{Table}
use Rattle.opencl_macros.specs.Expansion.{Fed, Active}
use Rattle.opencl_macros.specs.Machine.{Machine, Inner, machine, machine_with, taken, runs, expanded}
use Rattle.opencl_macros.specs.Conditions.{Part, part, reads}

pub part-none : (depth : ℕ) (site : Site) (p : Part) (ts : List Token) → depth ≡ 0 → part depth site p ts ≡ Err site
unfolding part
part-none zero site p ts h = refl
part-none (suc depth) site p ts h = absurd (omega arith)

pub part-is : (depth left : ℕ) (site : Site) (p : Part) (ts : List Token) → depth ≡ suc left
    → part depth site p ts ≡ reads (part left site) site p ts
unfolding part
part-is depth left site p ts e = ap (λ k. part k site p ts) e

pub expanded-none : (depth : ℕ) (table : Table) (site : Site) (left : ℕ) (active : Active) (feed : List Fed) → depth ≡ 0
    → expanded depth table site left active feed ≡ Err site
unfolding expanded
expanded-none zero table site left active feed h = refl
expanded-none (suc depth) table site left active feed h = absurd (omega arith)

pub expanded-is : (depth less : ℕ) (table : Table) (site : Site) (left : ℕ) (active : Active) (feed : List Fed) → depth ≡ suc less
    → expanded depth table site left active feed ≡ machine 4194304 (expanded less table) site table (machine_with feed active [] left)
unfolding expanded
expanded-is depth less table site left active feed e = ap (λ k. expanded k table site left active feed) e

pub machine-none : (steps : ℕ) (inner : Inner) (site : Site) (table : Table) (m : Machine) → steps ≡ 0
    → machine steps inner site table m ≡ Err site
unfolding machine
machine-none zero inner site table m h = refl
machine-none (suc steps) inner site table m h = absurd (omega arith)

pub turns : (steps left : ℕ) (inner : Inner) (site : Site) (table : Table) (m : Machine) (p : Option Fed × Machine) → steps ≡ suc left
    → p ≡ taken m → machine steps inner site table m ≡ runs (machine left inner site table) inner table p
unfolding machine
turns steps left inner site table m p e h =
    ap (λ k. machine k inner site table m) e ∙ sym (ap (runs (machine left inner site table) inner table) h)
