-- The last numbers of groups and blocks, and one record more.
use Rattle.std.proofs.Common.{◌≡◌, ◌<◌, if◌then◌else◌}
