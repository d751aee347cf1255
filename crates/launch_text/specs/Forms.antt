-- The code's two texts.
use Rattle.launch_text.specs.LaunchWords as words
use Rattle.launch_text.specs.declared.keyword.Form.{Form}
use Rattle.launch_text.specs.declared.keyword.Form.TheVariants as forms

abbrev pub form : Form → words.Form
form forms.Conditions = words.Conditions
form forms.Launch = words.Launch
