-- A map's parameters are those of its tree.
use Rattle.std.proofs.Common.{◌≡◌, ℕ, refl, ◌∙◌}
use Rattle.texts.specs.Surface.{First, FirstDeclares, FirstAssigns, Statement, Declare, DeclareArray, Assign, If, While, For, Barrier, Jump, Block, Statements, none, one, Kernel}
use Rattle.kernel_names.specs.NameMap.{NameMap, Turning, Other, with_statement, with_first, with_all_in, with_all, last_among, names_of, only}

first-keeps : (f : First) (n last : ℕ) (m : NameMap) → (with_first f n last m).parameters ≡ m.parameters
first-keeps (FirstDeclares d) n last m = refl
first-keeps (FirstAssigns a) n last m = refl

mutual
  one-keeps : (s : Statement) (last : ℕ) (m : NameMap) → (with_all_in s last m).parameters ≡ m.parameters
  one-keeps (Declare d) last m = refl
  one-keeps (DeclareArray n site kind name_site name length) last m = refl
  one-keeps (Assign a) last m = refl
  one-keeps (If n site test taken skipped) last m = all-keep skipped _ _ ∙ all-keep taken _ _
  one-keeps (While n site test body) last m = all-keep body _ _
  one-keeps (For n site first test update body) last m = all-keep body _ _ ∙ first-keeps first _ _ _
  one-keeps (Barrier n site flags) last m = refl
  one-keeps (Jump n site jump) last m = refl
  one-keeps (Block n site body) last m = all-keep body _ _

  all-keep : (ss : Statements) (last : ℕ) (m : NameMap) → (with_all ss last m).parameters ≡ m.parameters
  all-keep none last m = refl
  all-keep (one s ss) last m = all-keep ss last _ ∙ one-keeps s last m

pub names-keep-parameters : (k : Kernel) → (names_of k).parameters ≡ k.parameters
unfolding names_of
names-keep-parameters k = all-keep k.body (last_among k.body 0) (only k.parameters)
