use Rattle.samples.proofs.StoresRead.{stores_read, plain_there}
use Rattle.samples.specs.Stores.{stores, kernel_of}
use Rattle.types.specs.Scope.{Bits32}
use Rattle.reading.specs.Kernels.{read, text_for}
use Rattle.samples.proofs.texts_of_stores.stores_are_plain.Goals as goal

pub returns : goal.returns
returns c = record { text = c.bytes_are_the_text_of_what_is_read.ensures (text_for Bits32 stores) (kernel_of (read (text_for Bits32 stores))) stores_read; plain = plain_there }
