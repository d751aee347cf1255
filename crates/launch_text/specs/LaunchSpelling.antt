-- Which launch a text says of a kernel with these parameters, by cases: a buffer's words are listed, or one word fills it.
use Rattle.std.specs.Prelude.{◌≡◌, ◌≤◌, ◌<◌, ◌^◌, ℕ, ℤ, List, [], ◌∷◌, ◌++◌, length, replicate, sum_by, Bool, true, codes}
use Rattle.std.specs.Fmt.{decimal, signed_decimal}
use Rattle.semantics.specs.Core.{Site}
use Rattle.semantics.specs.Word.{Kind, Word, in_kind}
use Rattle.semantics.specs.Launch.{Three, IsCount, IsArgument, Launch, silent}
use Rattle.lines.specs.Lines.{line_feed}
use Rattle.texts.specs.Surface.{Parameter, Buffer, Value}
use Rattle.launch_text.specs.LaunchText.{argument_text, fill_text}

-- ` W` for each word
pub data AreListed (k : Kind) : List ℕ → List ℤ → Type 0 where
  no_word : AreListed k [] []
  a_word : {bytes : List ℕ} {zs : List ℤ} (z : ℤ) → in_kind k z ≡ true → AreListed k bytes zs →
      AreListed k (codes " " ++ (signed_decimal z ++ bytes)) (z ∷ zs)

pub data AreContents (k : Kind) : List ℕ → List ℤ → Type 0 where
  -- `list W W ..`
  listed : {bytes : List ℕ} {zs : List ℤ} → AreListed k bytes zs → AreContents k (codes "list" ++ bytes) zs
  -- `fill LENGTH W`
  filled : (n : ℕ) (z : ℤ) → in_kind k z ≡ true →
      AreContents k (codes "fill " ++ (decimal n ++ (codes " " ++ signed_decimal z))) (replicate n z)

-- `buffer NAME CONTENTS`
abbrev pub contents_text : (name contents : List ℕ) → List ℕ
contents_text name contents = codes "buffer " ++ (name ++ (codes " " ++ (contents ++ line_feed ∷ [])))

-- `groups N N N`
abbrev pub counts_text : Three ℕ → List ℕ
counts_text g = codes "groups " ++ (decimal g.x ++ (codes " " ++ (decimal g.y ++ (codes " " ++ (decimal g.z ++ line_feed ∷ [])))))

-- one line a value parameter, in order
pub data AreWordLines : List Parameter → List ℕ → List Word → Type 0 where
  no_argument : AreWordLines [] [] []
  past_buffer : {ps : List Parameter} {lines : List ℕ} {ws : List Word} (constant : Bool) (k : Kind) (site : Site) (name : List ℕ) →
      AreWordLines ps lines ws → AreWordLines (Buffer constant k site name ∷ ps) lines ws
  an_argument : {ps : List Parameter} {lines : List ℕ} {ws : List Word} (k : Kind) (site : Site) (name : List ℕ) (w : Word) →
      IsArgument k w → AreWordLines ps lines ws → AreWordLines (Value k site name ∷ ps) (argument_text name w ++ lines) (w ∷ ws)

-- one line a buffer parameter, in order
pub data AreBufferLines : List Parameter → List ℕ → List (List ℤ) → Type 0 where
  no_buffer : AreBufferLines [] [] []
  past_value : {ps : List Parameter} {lines : List ℕ} {buffers : List (List ℤ)} (k : Kind) (site : Site) (name : List ℕ) →
      AreBufferLines ps lines buffers → AreBufferLines (Value k site name ∷ ps) lines buffers
  a_buffer : {ps : List Parameter} {lines contents : List ℕ} {zs : List ℤ} {buffers : List (List ℤ)}
      (constant : Bool) (k : Kind) (site : Site) (name : List ℕ) → AreContents k contents zs → AreBufferLines ps lines buffers →
      AreBufferLines (Buffer constant k site name ∷ ps) (contents_text name contents ++ lines) (zs ∷ buffers)

-- these lines, one after another, and nothing else
pub record AreLaunchLines (ps : List Parameter) (text : List ℕ) (l : Launch) : Type 0 where
  pub argument_lines : List ℕ
  pub buffer_lines : List ℕ
  pub is_text : text ≡ codes "launch 1" ++ (line_feed ∷ (counts_text l.groups ++ (argument_lines ++ (buffer_lines ++ fill_text l.fill))))
  pub count_x : IsCount l.groups.x
  pub count_y : IsCount l.groups.y
  pub count_z : IsCount l.groups.z
  pub arguments : AreWordLines ps argument_lines l.arguments
  pub buffers : AreBufferLines ps buffer_lines l.buffers
  pub few_words : sum_by length l.buffers ≤ 1048576
  pub fill : l.fill < 2 ^ 31
  pub machine : l.machine ≡ silent

-- in at most 4,194,304 bytes
pub record IsLaunchText (ps : List Parameter) (text : List ℕ) (l : Launch) : Type 0 where
  pub lines : AreLaunchLines ps text l
  pub within_limit : length text ≤ 4194304
