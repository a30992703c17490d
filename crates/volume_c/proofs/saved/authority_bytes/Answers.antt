use Rattle.std.proofs.Common.{rules, ◌≡◌, Ok, ap, ◌∙◌}
use Rattle.volume_model.specs.Common.{Authority}
use Rattle.epochs.specs.Snapshot.{authority_in as snapshot_authority}
use Rattle.volume_c.specs.Saved.{authority_in, authority_spelled}
use Rattle.volume_c.proofs.Back.{authority-back}
use Rattle.volume_c.proofs.saved.authority_bytes.Goals as goal

pub returns-clause-reads : goal.returns-clause-reads
returns-clause-reads c =
    let a : Authority = snapshot_authority c.in_ok-snapshot.snapshot in
    let text : c.extend_from_slice.new.self.items ≡ authority_spelled a = search rules in
    ap authority_in text ∙ authority-back a.last_volume a.configurations c.put_u32.ensures.fits ∙ ap (λ (x : Authority). Ok x) c.in_ok-snapshot.ensures.kept
