use Rattle.std.proofs.Common.{◌+◌, pos, refl}
use Rattle.std.proofs.lemmas.List.{get_or-replicate}
use Rattle.reader.specs.Held.{base}
use Rattle.reader.proofs.Holding.{base_fits}
use Rattle.reader.proofs.program.Program.new.Goals as goal

pub returns : goal.returns
returns c = record { ring = refl; shape = refl; cells = λ m k h. get_or-replicate 6144 (base m + k) (pos 0) (pos 0) (base_fits m k h); steps = refl; numbers = refl; indices = refl }
