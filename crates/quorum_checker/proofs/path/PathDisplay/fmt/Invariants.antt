use Rattle.std.proofs.Common.{◌≡◌, length, take}
use Rattle.std.specs.Fmt.{HasWritten, IsPlainFormatter}
use Rattle.quorum_checker.specs.PathText.{path_text}
use Rattle.quorum_checker.proofs.path.PathDisplay.fmt.Given as goal

-- the first numbers have been written
abbrev pub invariant-loop-n : goal.invariant-loop-n
invariant-loop-n g l = record {
  written : IsPlainFormatter l.fn.f → HasWritten g.W.Write.write_str_gives l.fn.f (path_text (take l.n l.self)) l.f;
  end : l.n-end ≡ length l.self;
}
