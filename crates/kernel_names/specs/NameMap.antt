-- What is told of a kernel beside its core: its parameters, the names of its variables and local arrays, and where each of its statements
-- stands in the source. Statements are numbered in the order of the source, so what is inside a statement, and where a name is visible,
-- are ranges of numbers.
use Rattle.std.specs.Prelude.{ℕ, suc, Bool, true, false, cond, nat_eq, nat_le, nat_lt, ◌&&◌, List, [], ◌∷◌, ◌++◌, Option, Some, None}
use Rattle.semantics.specs.Core.{Site}
use Rattle.texts.specs.Surface.{Declaration, First, FirstDeclares, FirstAssigns, Statement, Declare, DeclareArray, Assign, If, While, For, Barrier, Jump, Block, Statements, none, one, Parameter, Kernel}

-- a private variable; slots count them in this order, behind the value parameters. It is visible in the statements of the numbers `first`
-- to `last`: up to the end of its block (C99 6.2.1p4), and where a `for` declares it, from its test on
pub record Variable : Type 0 where
  pub name : List ℕ
  pub site : Site
  pub first : ℕ
  pub last : ℕ

pub record LocalName : Type 0 where
  pub name : List ℕ
  pub site : Site

pub data Sort : Type 0 where
  Turning : Sort
  Waiting : Sort
  Other : Sort

-- where a statement begins; whether it is a loop, which turns, or a barrier, at which items wait; and the last number in it
pub record Standing : Type 0 where
  pub number : ℕ
  pub site : Site
  pub sort : Sort
  pub last : ℕ

pub record NameMap : Type 0 where
  pub parameters : List Parameter
  pub variables : List Variable
  pub arrays : List LocalName
  pub statements : List Standing

abbrev pub with_statement : (number : ℕ) → Site → Sort → (last : ℕ) → NameMap → NameMap
with_statement n site sort last m = record m
    { statements = m.statements ++ record { number = n; site = site; sort = sort; last = last } ∷ [] }

abbrev pub with_array : (name : List ℕ) → Site → NameMap → NameMap
with_array name site m = record m { arrays = m.arrays ++ record { name = name; site = site } ∷ [] }

abbrev pub with_variable : (name : List ℕ) → Site → (first last : ℕ) → NameMap → NameMap
with_variable name site first last m = record m
    { variables = m.variables ++ record { name = name; site = site; first = first; last = last } ∷ [] }

-- the last number in a statement, and the last one among statements, before which another stands
abbrev mutual
  pub last_in : Statement → ℕ
  last_in (Declare d) = d.number
  last_in (DeclareArray n site kind name_site name length) = n
  last_in (Assign a) = a.number
  last_in (If n site test taken skipped) = last_among skipped (last_among taken n)
  last_in (While n site test body) = last_among body n
  last_in (For n site first test update body) = last_among body update.number
  last_in (Barrier n site flags) = n
  last_in (Jump n site jump) = n
  last_in (Block n site body) = last_among body n

  pub last_among : Statements → (before : ℕ) → ℕ
  last_among none before = before
  last_among (one s ss) before = last_among ss (last_in s)

-- a declaration: its name is visible behind it
abbrev pub with_declaration : Declaration → (last : ℕ) → NameMap → NameMap
with_declaration d last m = with_variable d.name d.name_site (suc d.number) last (with_statement d.number d.site Other d.number m)

-- the first part of a `for` of a number: what it declares is visible in the whole `for`
abbrev pub with_first : First → (loop last : ℕ) → NameMap → NameMap
with_first (FirstDeclares d) loop last m = with_variable d.name d.name_site loop last (with_statement d.number d.site Other d.number m)
with_first (FirstAssigns a) loop last m = with_statement a.number a.site Other a.number m

-- a statement with what is in it, where `last` is the last number of the block around
abbrev mutual
  pub with_all_in : Statement → (last : ℕ) → NameMap → NameMap
  with_all_in (Declare d) last m = with_declaration d last m
  with_all_in (DeclareArray n site kind name_site name length) last m = with_array name name_site (with_statement n site Other n m)
  with_all_in (Assign a) last m = with_statement a.number a.site Other a.number m
  with_all_in (If n site test taken skipped) last m =
      with_all skipped (last_among skipped (last_among taken n)) (with_all taken (last_among taken n) (
      with_statement n site Other (last_among skipped (last_among taken n)) m))
  with_all_in (While n site test body) last m = with_all body (last_among body n) (with_statement n site Turning (last_among body n) m)
  with_all_in (For n site first test update body) last m =
      with_all body (last_among body update.number) (with_statement update.number update.site Other update.number (
      with_first first n (last_among body update.number) (with_statement n site Turning (last_among body update.number) m)))
  with_all_in (Barrier n site flags) last m = with_statement n site Waiting n m
  with_all_in (Jump n site jump) last m = with_statement n site Other n m
  with_all_in (Block n site body) last m = with_all body (last_among body n) (with_statement n site Other (last_among body n) m)

  pub with_all : Statements → (last : ℕ) → NameMap → NameMap
  with_all none last m = m
  with_all (one s ss) last m = with_all ss last (with_all_in s last m)

abbrev pub only : List Parameter → NameMap
only ps = record { parameters = ps; variables = []; arrays = []; statements = [] }

-- the map of a tree
unfoldable pub names_of : Kernel → NameMap
names_of k = with_all k.body (last_among k.body 0) (only k.parameters)

abbrev pub start : Site
start = record { line = 1; column = 1 }

-- the site of the first statement of a number, or the text's start
abbrev pub site_among : ℕ → List Standing → Site
site_among n [] = start
site_among n (s ∷ ss) = cond (nat_eq s.number n) s.site (site_among n ss)

-- where a statement begins in the source; of the kernel itself, and where there is no such statement, its start
abbrev pub site_at : NameMap → Option ℕ → Site
site_at m None = start
site_at m (Some n) = site_among n m.statements
