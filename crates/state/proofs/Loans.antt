-- Memory that is lent on is the same memory. Assumes nothing.
use Rattle.std.proofs.Common.{List, ◌∙◌}
use Rattle.std.specs.Borrow.{MutBor}
use Rattle.state.specs.Memory.{SameLoan}
use Rattle.state.specs.declared.parts.Parts.{Parts}

pub loan_on : {S : Type 0} (p q r : Parts (MutBor (List S))) → SameLoan p q → SameLoan q r → SameLoan p r
loan_on p q r h g = record { table = g.table ∙ h.table; first = g.first ∙ h.first; second = g.second ∙ h.second; sizes = g.sizes ∙ h.sizes }
