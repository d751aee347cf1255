-- The narrow scalars: what is loaded of them, what is stored, and that what was stored is loaded back.
use Rattle.std.proofs.Common.{◌≡◌, ◌%◌, ◌^◌, ℕ, List, true, false, ap, ◌∙◌, arith, mod-eq_of_lt}
use Rattle.std.specs.Prelude.{ℤ, pos}
use Rattle.semantics.specs.Word.{Word, word, Int, Uint, Fault, bits_of, convert}
use Rattle.semantics.specs.Core.{Array, Site, Term, Convert}
use Rattle.semantics.specs.Setup.{Setup}
use Rattle.semantics.specs.Evaluation.{evaluate, Gives, Needs, Faults, and_then, settled}
use Rattle.std.proofs.lemmas.Bool.{false≢true}
use Rattle.semantics.proofs.Words.{bits_of-below}
use Rattle.opencl_terms.specs.Types.{Scalar, is_narrow, Char, Uchar, Short, Ushort, bits_in}
use Rattle.opencl_terms.specs.Types as types
use Rattle.opencl_terms.specs.Conversions.{loaded, stored}
use Rattle.opencl_terms.specs.Ranges.{bits_kept, number_of_bits, number_in, Has}
use Rattle.opencl_terms.proofs.Storage.{Storage}
use Rattle.opencl_terms.proofs.Elements as elements

abbrev char : Storage
char = record { below = 7; is_signed = true }

abbrev uchar : Storage
uchar = record { below = 7; is_signed = false }

abbrev short : Storage
short = record { below = 15; is_signed = true }

abbrev ushort : Storage
ushort = record { below = 15; is_signed = false }

pub kept-again : (of : Scalar) (z : ℤ) → is_narrow of ≡ true → number_in of (pos (bits_kept of z)) ≡ number_in of z
kept-again Char z h = ap (number_of_bits Char) (elements.kept-again char z (omega arith))
kept-again Uchar z h = ap (number_of_bits Uchar) (elements.kept-again uchar z (omega arith))
kept-again Short z h = ap (number_of_bits Short) (elements.kept-again short z (omega arith))
kept-again Ushort z h = ap (number_of_bits Ushort) (elements.kept-again ushort z (omega arith))
kept-again types.Boolean z h = absurd (false≢true h)
kept-again types.Int z h = absurd (false≢true h)
kept-again types.Uint z h = absurd (false≢true h)
kept-again types.Long z h = absurd (false≢true h)
kept-again types.Size z h = absurd (false≢true h)
kept-again types.Float z h = absurd (false≢true h)

pub same : (of : Scalar) (z : ℤ) → is_narrow of ≡ true → Has of z → number_in of z ≡ z
same Char z h i = elements.same char z (omega arith) i
same Uchar z h i = elements.same uchar z (omega arith) i
same Short z h i = elements.same short z (omega arith) i
same Ushort z h i = elements.same ushort z (omega arith) i
same types.Boolean z h i = absurd (false≢true h)
same types.Int z h i = absurd (false≢true h)
same types.Uint z h i = absurd (false≢true h)
same types.Long z h i = absurd (false≢true h)
same types.Size z h i = absurd (false≢true h)
same types.Float z h i = absurd (false≢true h)

pub inside : (of : Scalar) (z : ℤ) → is_narrow of ≡ true → Has of (number_in of z)
inside Char z h = elements.number-inside char.is_signed char.below (bits_kept Char z) (elements.kept-below char z)
inside Uchar z h = elements.number-inside uchar.is_signed uchar.below (bits_kept Uchar z) (elements.kept-below uchar z)
inside Short z h = elements.number-inside short.is_signed short.below (bits_kept Short z) (elements.kept-below short z)
inside Ushort z h = elements.number-inside ushort.is_signed ushort.below (bits_kept Ushort z) (elements.kept-below ushort z)
inside types.Boolean z h = absurd (false≢true h)
inside types.Int z h = absurd (false≢true h)
inside types.Uint z h = absurd (false≢true h)
inside types.Long z h = absurd (false≢true h)
inside types.Size z h = absurd (false≢true h)
inside types.Float z h = absurd (false≢true h)

bits-again : (of : Scalar) (z : ℤ) → bits_kept of (pos (bits_of z)) ≡ bits_kept of z
bits-again of z = ap (λ n. n % 2 ^ bits_in of) (mod-eq_of_lt (bits_of-below z))

module _ (s : Setup) (i : ℕ) (now : List ℕ) (vars : List Word) where
  to-uint : (site : Site) (e : Term) (answers rest : List Word) (v : Word) → evaluate s i now e vars answers ≡ Gives v rest → evaluate s i now (Convert Uint site e) vars answers ≡ Gives (word Uint (pos (bits_of v.value))) rest
  unfolding evaluate
  to-uint site e answers rest v h = ap (λ o. and_then o (λ a rest. settled (convert s.width Uint a.value) site rest)) h

  pub loads : (of : Scalar) (site : Site) (e : Term) (answers rest : List Word) (v : Word) → is_narrow of ≡ true → evaluate s i now e vars answers ≡ Gives v rest → evaluate s i now (loaded of site e) vars answers ≡ Gives (word Int (number_in of v.value)) rest
  loads Char site e answers rest v n h = elements.loads s i now vars char site e answers rest v (omega arith) h
  loads Uchar site e answers rest v n h = elements.loads s i now vars uchar site e answers rest v (omega arith) h
  loads Short site e answers rest v n h = elements.loads s i now vars short site e answers rest v (omega arith) h
  loads Ushort site e answers rest v n h = elements.loads s i now vars ushort site e answers rest v (omega arith) h
  loads types.Boolean site e answers rest v n h = absurd (false≢true n)
  loads types.Int site e answers rest v n h = absurd (false≢true n)
  loads types.Uint site e answers rest v n h = absurd (false≢true n)
  loads types.Long site e answers rest v n h = absurd (false≢true n)
  loads types.Size site e answers rest v n h = absurd (false≢true n)
  loads types.Float site e answers rest v n h = absurd (false≢true n)

  pub asks : (of : Scalar) (site : Site) (e : Term) (answers : List Word) (a : Array) (n : ℕ) (at : Site) → is_narrow of ≡ true → evaluate s i now e vars answers ≡ Needs a n at → evaluate s i now (loaded of site e) vars answers ≡ Needs a n at
  asks Char site e answers a n at t h = elements.asks s i now vars char site e answers a n at h
  asks Uchar site e answers a n at t h = elements.asks s i now vars uchar site e answers a n at h
  asks Short site e answers a n at t h = elements.asks s i now vars short site e answers a n at h
  asks Ushort site e answers a n at t h = elements.asks s i now vars ushort site e answers a n at h
  asks types.Boolean site e answers a n at t h = absurd (false≢true t)
  asks types.Int site e answers a n at t h = absurd (false≢true t)
  asks types.Uint site e answers a n at t h = absurd (false≢true t)
  asks types.Long site e answers a n at t h = absurd (false≢true t)
  asks types.Size site e answers a n at t h = absurd (false≢true t)
  asks types.Float site e answers a n at t h = absurd (false≢true t)

  pub fails : (of : Scalar) (site : Site) (e : Term) (answers : List Word) (x : Fault) (at : Site) → is_narrow of ≡ true → evaluate s i now e vars answers ≡ Faults x at → evaluate s i now (loaded of site e) vars answers ≡ Faults x at
  fails Char site e answers x at t h = elements.fails s i now vars char site e answers x at h
  fails Uchar site e answers x at t h = elements.fails s i now vars uchar site e answers x at h
  fails Short site e answers x at t h = elements.fails s i now vars short site e answers x at h
  fails Ushort site e answers x at t h = elements.fails s i now vars ushort site e answers x at h
  fails types.Boolean site e answers x at t h = absurd (false≢true t)
  fails types.Int site e answers x at t h = absurd (false≢true t)
  fails types.Uint site e answers x at t h = absurd (false≢true t)
  fails types.Long site e answers x at t h = absurd (false≢true t)
  fails types.Size site e answers x at t h = absurd (false≢true t)
  fails types.Float site e answers x at t h = absurd (false≢true t)

  pub stores : (of : Scalar) (site : Site) (e : Term) (answers rest : List Word) (v : Word) → is_narrow of ≡ true → evaluate s i now e vars answers ≡ Gives v rest → evaluate s i now (stored of site e) vars answers ≡ Gives (word Uint (pos (bits_kept of v.value))) rest
  stores Char site e answers rest v n h = elements.stores s i now vars char site _ answers rest _ (omega arith) (to-uint site e answers rest v h) ∙ ap (λ m. Gives (word Uint (pos m)) rest) (bits-again Char v.value)
  stores Uchar site e answers rest v n h = elements.stores s i now vars uchar site _ answers rest _ (omega arith) (to-uint site e answers rest v h) ∙ ap (λ m. Gives (word Uint (pos m)) rest) (bits-again Uchar v.value)
  stores Short site e answers rest v n h = elements.stores s i now vars short site _ answers rest _ (omega arith) (to-uint site e answers rest v h) ∙ ap (λ m. Gives (word Uint (pos m)) rest) (bits-again Short v.value)
  stores Ushort site e answers rest v n h = elements.stores s i now vars ushort site _ answers rest _ (omega arith) (to-uint site e answers rest v h) ∙ ap (λ m. Gives (word Uint (pos m)) rest) (bits-again Ushort v.value)
  stores types.Boolean site e answers rest v n h = absurd (false≢true n)
  stores types.Int site e answers rest v n h = absurd (false≢true n)
  stores types.Uint site e answers rest v n h = absurd (false≢true n)
  stores types.Long site e answers rest v n h = absurd (false≢true n)
  stores types.Size site e answers rest v n h = absurd (false≢true n)
  stores types.Float site e answers rest v n h = absurd (false≢true n)
