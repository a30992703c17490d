-- Reading the items of a list one after the other, as a loop does.
use Rattle.std.proofs.Common.{List, ◌++◌, Result, Ok}
use Rattle.volume_model.specs.declared.fault.Fault.{Fault}
use Rattle.volume_model.specs.Common.{◌>>=◌, Formula}

-- what was read before, and what is still read
abbrev pub with_front : List Formula → Result (List Formula) Fault → Result (List Formula) Fault
with_front front read = read >>= λ fs. Ok (front ++ fs)
