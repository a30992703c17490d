use mir.Syntax.{named}
use denote.Param.{param}
use denote.Param.Send.{IsSync, struct_sync, shr_sync, shr_slice_sync, sendable}
use denote.Struct.Declared.{shape}
use denote.Struct.Tuple.{type_at}
use Rattle.std.proofs.Crossing.{crosses}
use Rattle.cert_search.proofs.Crossing.{lent_sync}
use Rattle.cert_search.proofs.searching.worked_by.Lts as lts
use Rattle.cert_search.proofs.searching.worked_by.Goals as goal

-- each thing that the closure has borrowed may be seen by other threads
pub map_vec-requires-sync-F : goal.map_vec-requires-sync-F
map_vec-requires-sync-F g c κs within =
    let r : IsSync (param 0 g.row.R) = record { shared = c.type_bounds.sync-R.shared } in
    let s : IsSync (param 1 g.row.G) = record { shared = c.type_bounds.sync-G.shared } in
    let rows = lts.of-8 g.row.R g.row.G g.R.laws g.G.laws g.R.Threads-dict g.R.Wait-dict g.G.Gate-dict (record { mir = named 7; lft = κs.1.1.1.1.1.1.1.0 }) (record { mir = named 8; lft = κs.1.1.1.1.1.1.1.1.0 })
    (record { mir = named 9; lft = κs.1.1.1.1.1.1.1.1.1.0 }) (record { mir = named 10; lft = κs.1.1.1.1.1.1.1.1.1.1.0 }) (record { mir = named 11; lft = κs.1.1.1.1.1.1.1.1.1.1.1.0 })
    (record { mir = named 12; lft = κs.1.1.1.1.1.1.1.1.1.1.1.1.0 }) in
    let captures = type_at (lts.name-6 g.row.R g.row.G g.R.laws g.G.laws g.R.Threads-dict g.R.Wait-dict g.G.Gate-dict) rows in
    let each = struct_sync (shape captures) (shr_sync _ _ _ r, (search (sendable, crosses) depth 30, (shr_slice_sync _ _ _ (lent_sync _), (search (sendable, crosses) depth 30, (shr_sync _ _ _ s, tt))))) in
    record { shared = λ d. each.shared (captures.to d) }
