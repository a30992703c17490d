use Rattle.std.proofs.Common.{◌≡◌, ◌<◌, ◌^◌, length, subst}
use Rattle.wire.specs.declared.message.Image.{Image}
use Rattle.wire.specs.Common.{label_of}
use Rattle.message_bytes.proofs.Back.{page_back}
use Rattle.message_bytes.proofs.fixed.write_page.Goals as goal

pub returns-clause-reads : goal.returns-clause-reads
returns-clause-reads c =
    let p = c.args.page.now in
    let block : p.image.value.block < 2 ^ 32 = subst (λ (x : Image). x.block < 2 ^ 32) c.deref-image.ensures c.write_u32-at.ensures.fits in
    let point : p.image.value.point < 2 ^ 64 = subst (λ (x : Image). x.point < 2 ^ 64) c.deref-image.ensures c.write_u64-at.ensures.fits in
    let full : length p.image.value.bytes ≡ 512 = subst (λ (x : Image). length x.bytes ≡ 512) c.deref-image.ensures c.write_image.ensures.full in
    page_back p.group (label_of p.label) p.from p.image.value.block p.image.value.point p.image.value.bytes (record { volume = c.write_head-at.ensures.volume; member = c.write_head-at.ensures.member }) block point full
