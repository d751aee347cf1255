-- Where an expression begins.
use Rattle.semantics.specs.Core.{Site}
use Rattle.opencl_tree.specs.Tree.{Expression, Integer, Real, Name, Call, Index, Member, Prefix, Step, Cast, Vector, Infix, Conditional, Assign, Comma, SizeofType, SizeofOf, Before, Behind}

abbrev pub begin_of : Expression → Site
begin_of (Integer s k n) = s
begin_of (Real s spelling) = s
begin_of (Name s name) = s
begin_of (Call s name es) = s
begin_of (Index s e i) = begin_of e
begin_of (Member s e name) = begin_of e
begin_of (Prefix s sign e) = s
begin_of (Step s Before sign e) = s
begin_of (Step s Behind sign e) = begin_of e
begin_of (Cast s t e) = s
begin_of (Vector s t es) = s
begin_of (Infix s sign l r) = begin_of l
begin_of (Conditional s t a b) = begin_of t
begin_of (Assign s sign x e) = begin_of x
begin_of (Comma s a b) = begin_of a
begin_of (SizeofType s t) = s
begin_of (SizeofOf s e) = s
