-- Accesses of the code as those of the definitions.
use Rattle.semantics.specs.Solo as solo
use Rattle.core_code.specs.View.{site}
use Rattle.work_item.specs.Asks.{cell}
use Rattle.clashes.specs.declared.access.Access.{Access}

abbrev pub access : Access → solo.Access
access a = record { item = a.item; at = cell a.at; is_store = a.is_store; epoch = a.epoch; site = site a.site }
