-- What the code has made, as the definitions have it.
use Rattle.std.specs.Prelude.{ℕ, Option, None, Some, map}
use Rattle.linear.specs.Linear as semantics
use Rattle.linear.specs.declared.form.Form.{Form}
use Rattle.linear.specs.Forms.{form}
use Rattle.cut_proof.specs.Derivations as derivations
use Rattle.cut_proof.specs.declared.Line.{Line}
use Rattle.cut_proof.specs.declared.Lemma.{Lemma}
use Rattle.cut_proof.specs.declared.Line.TheVariants as lines
use Rattle.cut_proof.specs.declared.Made.{Made}
use Rattle.cut_proof.specs.declared.Made.TheVariants as mades

abbrev pub seen : Option Form → Option (semantics.Form ℕ)
seen None = None
seen (Some f) = Some (form f)

abbrev pub line : Line → derivations.Line
line (lines.Given n) = derivations.Given n
line (lines.Sum parts) = derivations.Sum parts.items
line (lines.Div d l) = derivations.Divide d l
line (lines.Product l m) = derivations.Product l m

abbrev pub lemma : Lemma → derivations.Lemma
lemma l = record { form = form l.form; lines = map line l.lines.items }

abbrev pub made_form : Made → semantics.Form ℕ
made_form (mades.Fact f) = form f.now
made_form (mades.Own f) = form f.value

abbrev pub made_seen : Option Made → Option (semantics.Form ℕ)
made_seen None = None
made_seen (Some m) = Some (made_form m)
