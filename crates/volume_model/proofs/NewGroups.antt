-- A client installs no records in a group that it lacked when it had cut
use Rattle.std.proofs.Common.{◌≡◌, ◌<◌, [], length, ap, ◌∙◌, arith}
use Rattle.volume_model.specs.Common.{of_group, World, StaysFound, NewGroupsAreEmpty, run, opening}
use Rattle.volume_model.proofs.Invariant.{found_of}
use Rattle.volume_model.proofs.Kept.{IsInstall, IsCutClient}
use Rattle.volume_model.proofs.Records.{of_group-none}
use Rattle.volume_model.proofs.Renewed.{IsKeptWorld}
use Rattle.volume_model.proofs.Run.{run_kept, opening_kept}
use Rattle.volume_model.proofs.Finds.{finds_last}
use Rattle.std.proofs.lemmas.Grind.{common_steps}

pub new_groups_are_empty : NewGroupsAreEmpty
new_groups_are_empty plan certified events more volume cut group label piece contents lacked own made =
    let world : World = run plan (opening plan) events in
    let known : IsKeptWorld plan world = run_kept plan certified events (opening plan) (opening_kept plan certified) in
    let later : IsKeptWorld plan (run plan world more) = run_kept plan certified more world known in
    let client : IsCutClient plan world volume (world.clients volume) = (known.kept.clients volume).cut cut in
    let stays : StaysFound (world.clients volume) ((run plan world more).clients volume) = finds_last plan world more volume cut in
    let install : IsInstall (run plan world more) group label piece contents = later.kept.messages _ made in
    let same : found_of (run plan world more) label.volume ≡ (world.clients volume).found = ap (found_of (run plan world more)) own ∙ stays.found_on in
    let none : of_group group (found_of (run plan world more) label.volume) ≡ [] =
    ap (of_group group) same ∙ of_group-none group (world.clients volume).found (λ r i is. (let there : r.group < length (world.clients volume).groups = client.found_there r i in omega arith)) in
    grind (arith, common_steps)
