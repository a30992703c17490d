use Rattle.std.proofs.Common.{◌≡◌, ◌≤◌, ◌∙◌, ◌+◌, ◌++◌, ℕ, List, [], length, take, drop, sym, ap, rules}
use Rattle.std.proofs.lemmas.List.{drop_all}
use Rattle.std.specs.Arc.{arc_value}
use Rattle.volume_model.specs.Common.{Redo}
use Rattle.wire.specs.declared.contents.Contents.{Contents}
use Rattle.wire.specs.Common.{contents_of}
use Rattle.message_bytes.specs.Spelling.{records_spelled}
use Rattle.volume_c.proofs.Pieces.{records-moved}
use Rattle.volume_c.proofs.snapshot_bytes.SnapshotBytes.read_records.Goals as goal

pub returns-clause-moves : goal.returns-clause-moves
returns-clause-moves c =
    let head : List ℕ = c.args.self.now.head.items in
    let taken : ℕ = c.args.self.now.taken in
    let next : ℕ = c.args.self.now.next in
    let records : List Redo = (contents_of (arc_value c.args.self.now.contents)).records in
    let n : ℕ = c.write_records-records.result.0 in
    let count : ℕ = c.write_records-records.result.1 in
    let out : List ℕ = c.write_records-records.new.out in
    let all : length head ≤ taken = search rules in
    let none : drop taken head ≡ [] = drop_all taken head all in
    let text : take count out ≡ records_spelled (take n (drop next records)) =
    c.write_records-records.ensures.text ∙ ap (λ (xs : List Redo). records_spelled (take n xs)) (c.records_from-left.ensures.records ∙ ap (λ (x : Contents). drop next (contents_of x).records) c.deref-2.ensures) in
    ap (λ (t : List ℕ). t ++ records_spelled (drop next records)) none ∙ records-moved records next n count out text
    ∙ ap (λ (t : List ℕ). take count out ++ (t ++ records_spelled (drop (next + n) records))) (sym none)
