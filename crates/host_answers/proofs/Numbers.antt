-- No refusal by a check, of a launch's text or by a run has the number 0.
use Rattle.std.proofs.Common.{◌≢◌}
use Rattle.texts.specs.Faults as plain_tokens
use Rattle.texts.specs.ParseFaults as plain_trees
use Rattle.types.specs.TypeFaults as plain_types
use Rattle.launch_text.specs.LaunchFaults as launches
use Rattle.certificate_text.specs.Certificate as certificates
use Rattle.opencl_tokens.specs.Faults as tokens
use Rattle.opencl_parser.specs.Faults as trees
use Rattle.opencl_files.specs.Faults as files
use Rattle.opencl_values.specs.Faults as values
use Rattle.lexer.specs.Seen as plain_tokens_seen
use Rattle.lexer.specs.declared.TextError.{TextError}
use Rattle.lexer.specs.declared.TextError.TheVariants as text_errors
use Rattle.parser.specs.View as plain_trees_seen
use Rattle.parser.specs.Parsed as parsed
use Rattle.parser.specs.declared.error.ParseError.{ParseError}
use Rattle.parser.specs.declared.error.ParseError.TheVariants as tree_errors
use Rattle.types.specs.Answers as plain_types_seen
use Rattle.types.specs.declared.error.TypeError.{TypeError}
use Rattle.types.specs.declared.error.TypeError.TheVariants as type_errors
use Rattle.reading.specs.Answers as plain
use Rattle.reading.specs.declared.KernelError as plain_code
use Rattle.reading.specs.declared.KernelError.TheVariants as plain_errors
use Rattle.launch_text.specs.Answers as launches_seen
use Rattle.launch_text.specs.declared.error.LaunchTextError.{LaunchTextError}
use Rattle.launch_text.specs.declared.error.LaunchTextError.TheVariants as launch_errors
use Rattle.certificate.specs.Answers as certificates_seen
use Rattle.certificate.specs.declared.error.CertError.{CertError}
use Rattle.certificate.specs.declared.error.CertError.TheVariants as certificate_errors
use Rattle.opencl_tokens.specs.Seen as tokens_seen
use Rattle.opencl_tokens.specs.declared.TokenError.{TokenError}
use Rattle.opencl_tokens.specs.declared.TokenError.TheVariants as token_errors
use Rattle.opencl_files.specs.View as files_seen
use Rattle.opencl_files.specs.declared.errors.FileError.{FileError}
use Rattle.opencl_files.specs.declared.errors.FileError.TheVariants as file_errors
use Rattle.opencl_values.specs.View as values_seen
use Rattle.opencl_values.specs.declared.error.ValueError.{ValueError}
use Rattle.opencl_values.specs.declared.error.ValueError.TheVariants as value_errors
use Rattle.opencl_reading.specs.Answers as opencl
use Rattle.opencl_reading.specs.declared.error.OpenClError.{OpenClError}
use Rattle.opencl_reading.specs.declared.error.OpenClError.TheVariants as opencl_errors
use Rattle.kernel_reading.specs.Answers as reading
use Rattle.kernel_reading.specs.declared.KernelError.{KernelError}
use Rattle.kernel_reading.specs.declared.KernelError.TheVariants as kernel_errors
use Rattle.facts.specs.Numbers as walks
use Rattle.facts.specs.declared.error.WalkError.{WalkError}
use Rattle.facts.specs.declared.error.WalkError.TheVariants as walk_errors
use Rattle.entry_check.specs.Numbers as shows
use Rattle.entry_check.specs.declared.error.ShowError.{ShowError}
use Rattle.entry_check.specs.declared.error.ShowError.TheVariants as show_errors
use Rattle.cert_check.specs.Numbers as checks
use Rattle.cert_check.specs.declared.error.CheckError.{CheckError}
use Rattle.cert_check.specs.declared.error.CheckError.TheVariants as errors
use Rattle.executor.specs.Numbers as runs
use Rattle.executor.specs.declared.error.RunError.{RunError}
use Rattle.executor.specs.declared.error.RunError.TheVariants as run_errors

plain_token : (f : plain_tokens.TextFault) → plain_tokens.fault_number f ≢ 0
plain_token plain_tokens.BadByte h = cc
plain_token plain_tokens.OpenComment h = cc
plain_token plain_tokens.NumberTooLarge h = cc
plain_token plain_tokens.BadNumber h = cc
plain_token plain_tokens.TextTooLong h = cc

plain_tree : (f : plain_trees.ParseFault) → plain_trees.parse_fault_number f ≢ 0
plain_tree plain_trees.Expected h = cc
plain_tree plain_trees.TooDeep h = cc
plain_tree plain_trees.TooMany h = cc

plain_type : (f : plain_types.TypeFault) → plain_types.type_fault_number f ≢ 0
plain_type plain_types.UnknownName h = cc
plain_type plain_types.NameTwice h = cc
plain_type plain_types.WrongType h = cc
plain_type plain_types.WriteToConst h = cc
plain_type plain_types.ArrayInBlock h = cc
plain_type plain_types.LoadInCompoundIndex h = cc
plain_type plain_types.BarrierFlags h = cc
plain_type plain_types.LeftOutWord h = cc
plain_type plain_types.JumpOutsideLoop h = cc

line : (f : launches.LaunchFault) → launches.launch_fault_number f ≢ 0
line launches.Expected h = cc
line launches.UnknownName h = cc
line launches.MissingLine h = cc
line launches.EmptyRange h = cc
line launches.LimitPassed h = cc

certificate : (f : certificates.CertificateFault) → certificates.certificate_fault_number f ≢ 0
certificate (certificates.BadLine n) h = cc
certificate certificates.OtherVersion h = cc

token : (f : tokens.TextFault) → tokens.fault_number f ≢ 0
token tokens.BadByte h = cc
token tokens.OpenComment h = cc
token tokens.NumberTooLarge h = cc
token tokens.BadNumber h = cc
token tokens.TextTooLong h = cc
token tokens.Preprocessor h = cc
token (tokens.LeftOut word) h = cc

tree : (f : trees.ParseFault) → trees.fault_number f ≢ 0
tree trees.Expected h = cc
tree trees.TooDeep h = cc
tree trees.TooMany h = cc
tree (trees.LeftOut c) h = cc

value : (f : values.Fault) → values.fault_number f ≢ 0
value values.UnknownName h = cc
value values.NameTwice h = cc
value values.WrongType h = cc
value values.WriteToConst h = cc
value values.BarrierFlags h = cc
value values.JumpOutside h = cc
value values.TooMany h = cc
value values.Unset h = cc
value values.LocalLength h = cc
value (values.LeftOut c) h = cc

file : (f : files.FileFault) → files.fault_number f ≢ 0
file (files.Text f) h = tree f h
file files.NoKernel h = cc
file files.KernelTwice h = cc
file files.SeveralKernels h = cc

of_plain : (e : plain_code.KernelError) → plain.error_number e ≢ 0
of_plain (plain_errors.Text (text_errors.At f line column)) h = plain_token (plain_tokens_seen.fault f) h
of_plain (plain_errors.Text text_errors.Memory) h = cc
of_plain (plain_errors.Tree (tree_errors.At f s)) h = plain_tree (plain_trees_seen.fault f) h
of_plain (plain_errors.Tree tree_errors.Memory) h = cc
of_plain (plain_errors.Types (type_errors.At f s)) h = plain_type (plain_types_seen.fault f) h
of_plain (plain_errors.Types type_errors.Memory) h = cc

pub of_conditions : (e : LaunchTextError) → launches_seen.error_number e ≢ 0
of_conditions (launch_errors.Refused f n) h = line (launches_seen.fault f) h
of_conditions launch_errors.Memory h = cc

of_certificate : (e : CertError) → certificates_seen.error_number e ≢ 0
of_certificate (certificate_errors.Refused f) h = certificate (certificates_seen.fault f) h
of_certificate certificate_errors.Memory h = cc

of_opencl : (e : OpenClError) → opencl.error_number e ≢ 0
of_opencl (opencl_errors.Text (token_errors.At f s)) h = token (tokens_seen.fault f) h
of_opencl (opencl_errors.Text token_errors.Memory) h = cc
of_opencl (opencl_errors.File (file_errors.At f s)) h = file (files_seen.fault f) h
of_opencl (opencl_errors.File file_errors.Memory) h = cc
of_opencl (opencl_errors.Core (value_errors.At f s)) h = value (values_seen.fault f) h
of_opencl (opencl_errors.Core value_errors.Memory) h = cc
of_opencl (opencl_errors.NoSizes s) h = cc
of_opencl (opencl_errors.OtherSizes s) h = cc
of_opencl (opencl_errors.NoSuchLocal s) h = cc
of_opencl (opencl_errors.Unsound s) h = cc
of_opencl opencl_errors.Memory h = cc

of_kernel : (e : KernelError) → reading.error_number e ≢ 0
of_kernel (kernel_errors.Plain e) h = of_plain e h
of_kernel (kernel_errors.OpenCl e) h = of_opencl e h
of_kernel (kernel_errors.Head e) h = of_conditions e h
of_kernel kernel_errors.Headed h = cc

of_walk : (e : WalkError) → walks.error_number e ≢ 0
of_walk walk_errors.TooMany h = cc
of_walk walk_errors.TooLarge h = cc
of_walk walk_errors.Memory h = cc

of_show : (e : ShowError) → shows.show_number e ≢ 0
of_show (show_errors.NotShown n) h = cc
of_show (show_errors.ManyPaths s) h = cc
of_show (show_errors.Walk e) h = of_walk e h
of_show show_errors.OverBudget h = cc
of_show show_errors.Memory h = cc

pub of_check : (e : CheckError) → checks.error_number e ≢ 0
of_check (errors.Kernel e) h = of_kernel e h
of_check (errors.Conditions e) h = of_conditions e h
of_check (errors.Missed site) h = cc
of_check (errors.Certificate e) h = of_certificate e h
of_check (errors.ManyPaths site) h = cc
of_check (errors.Show e) h = of_show e h

pub of_run : (e : RunError) → runs.error_number e ≢ 0
of_run (run_errors.Condition e) h = cc
of_run run_errors.Workers h = cc
of_run run_errors.Unreckoned h = cc
of_run run_errors.Memory h = cc
