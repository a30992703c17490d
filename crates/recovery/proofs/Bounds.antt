-- How many records a cut finds at most.
use Rattle.std.proofs.Common.{◌≡◌, ℕ, zero, suc, ◌+◌, ◌-◌, ◌^◌, ◌<◌, ◌≤◌, min, ◌==◌, List, [], ◌∷◌, ◌++◌, Option, Some, None, option_map, length, map, get_or, take, drop, refl, sym, ap, ◌∙◌, subst, inl, inr, arith, take_all}
use Rattle.std.specs.Arc.{arc_value}
use Rattle.std.proofs.lemmas.Bool.{cases_Bool}
use Rattle.volume_model.specs.Common.{IsIn, Redo, record_at, follow, chain_from, chain_or_none, cut_of, Contents, newest, contents_of, ClientGroup, reports_of, all_reports, reported, live_reported, log_reported, VolumeLinksFall, StepsAreFew, records_in, records_said}
use Rattle.volume_model.specs.Lineage.{found_in}
use Rattle.volume_model.specs.Client.{Client}
use Rattle.volume_model.proofs.Basics.{IsIn-append}
use Rattle.volume_model.proofs.Chains.{greatest_point-is}
use Rattle.volume_model.proofs.Records.{found_in-from}
use Rattle.redo_record.specs.declared.shared_record.SharedRecord.{SharedRecord}
use Rattle.redo_record.specs.declared.record_set.RecordSet.{RecordSet}
use Rattle.redo_record.specs.Common.{shared_redo, HasRanges, packets_of, records_of}
use Rattle.redo_record.proofs.KeptRanges.{shared_redo-ranges}
use Rattle.hydration.specs.declared.copied.Copied.{Copied}
use Rattle.hydration.specs.Copies.{copies_in}
use Rattle.wire.specs.Contents as wire
use Rattle.writer_core.specs.declared.group_state.GroupState.{GroupState}
use Rattle.writer_core.specs.Logs.{log_of_set}
use Rattle.writer_core.specs.GroupStates.{groups_of}
use Rattle.writer_core.proofs.Bounds.{length-added}
use Rattle.writer_core.proofs.Joined.{shown-set}
use Rattle.recovery.specs.declared.found.Found.{Found}
use Rattle.recovery.specs.Reported.{reports_in}
use Rattle.recovery.specs.Finds.{live_records}
use Rattle.recovery.specs.Recoveries.{client_with}
use Rattle.recovery.proofs.Leaves.{all-reports}

-- ---- how many records are reported

-- the copy at the front, and the others
pub copies-first : (copies : List Copied) (c : Copied) → 0 < length copies → c ≡ get_or copies 0 c
    → contents_of (copies_in copies) ≡ wire.contents_of (arc_value c.contents) ∷ contents_of (copies_in (take (length copies - 1) (drop 1 copies)))
copies-first [] c within is = absurd (omega arith)
copies-first (x ∷ rest) c within is =
    let many : length (x ∷ rest) - 1 ≡ length rest = omega arith in
    ap (λ (y : Copied). wire.contents_of (arc_value y.contents) ∷ contents_of (copies_in rest)) (sym is)
    ∙ ap (λ l. wire.contents_of (arc_value c.contents) ∷ contents_of (copies_in l)) (sym (ap (λ n. take n rest) many ∙ take_all (length rest) rest (omega arith)))

pub records_in-append : (xs ys : List Contents) → records_in (xs ++ ys) ≡ records_in xs + records_in ys
records_in-append [] ys = omega arith
records_in-append (c ∷ xs) ys = let inner : records_in (xs ++ ys) ≡ records_in xs + records_in ys = records_in-append xs ys in omega (arith, inner)

-- counted up to a greatest number, the others first
pub counted-more : (most whole first rest x y z : ℕ) → whole ≡ first + rest → x ≡ min rest most → y ≡ min first most → z ≡ min (x + y) most → z ≡ min whole most
counted-more most whole first rest x y z sum is also all = omega (arith, sum, is, also, all)

pub counted-own : (most whole first rest x y z : ℕ) → whole ≡ first + rest → x ≡ min rest most → y ≡ first → z ≡ min (x + y) most → z ≡ min whole most
counted-own most whole first rest x y z sum is also all = omega (arith, sum, is, also, all)

-- ---- what is reported keeps its ranges

-- each of the records keeps its ranges
abbrev AreRanged : List Redo → Type 0
AreRanged records = (r : Redo) → IsIn r records → HasRanges r

ranged-packets : (packets : List SharedRecord) → AreRanged (map shared_redo packets)
ranged-packets [] r i = absurd i
ranged-packets (p ∷ rest) r (inl e) = subst HasRanges (sym e) (shared_redo-ranges p)
ranged-packets (p ∷ rest) r (inr i) = ranged-packets rest r i

set-range : (set : RecordSet) → AreRanged (records_of set)
set-range set = subst AreRanged (shown-set set) (ranged-packets (packets_of set))

copies-range : (copies : List Copied) (c : Contents) → IsIn c (contents_of (copies_in copies)) → (r : Redo) → IsIn r c.records → HasRanges r
copies-range [] c i r j = absurd i
copies-range (x ∷ rest) c (inl e) r j = set-range (arc_value x.contents).records r (subst (λ (q : Contents). IsIn r q.records) e j)
copies-range (x ∷ rest) c (inr i) r j = copies-range rest c i r j

reports-range : (group_states : List GroupState) (c : Contents) → IsIn c (reports_in (groups_of group_states)) → (r : Redo) → IsIn r c.records → HasRanges r
reports-range [] c i r j = absurd i
reports-range (s ∷ rest) c i r j =
    elim (IsIn-append (contents_of (copies_in s.copies.items)) (reports_in (groups_of rest)) c i) [
      | inl k ↦ copies-range s.copies.items c k r j
      | inr k ↦ reports-range rest c k r j
    ]

live-range : (group_states : List GroupState) (r : Redo) → IsIn r (live_records (groups_of group_states)) → HasRanges r
live-range group_states r i =
    let reports : List Contents = reports_in (groups_of group_states) in
    let (c, j, k, live) = found_in-from (newest reports) reports r i in
    reports-range group_states c j r k

-- ---- a log found has no more records than its last number

one_more : (r : Redo) (n : ℕ) (older : Option (List Redo)) → length (chain_or_none older) ≤ n → length (chain_or_none (option_map (λ log. r ∷ log) older)) ≤ suc n
one_more r n None h = omega arith
one_more r n (Some older) h = omega (arith, h)

by_record : (n : ℕ) (found : Option Redo) (next : Redo → Option (List Redo)) → ((r : Redo) → length (chain_or_none (next r)) ≤ n) → length (chain_or_none (follow found next)) ≤ suc n
by_record n None next h = omega arith
by_record n (Some r) next h = one_more r n (next r) (h r)

chain-within : (steps : ℕ) (records : List Redo) (n : ℕ) → length (chain_or_none (chain_from steps records n)) ≤ steps
chain-within zero records n = elim (cases_Bool (n == 0)) [ inl e ↦ rw e (omega arith) | inr e ↦ rw e (omega arith) ]
chain-within (suc steps) records n =
    elim (cases_Bool (n == 0)) [
      | inl e ↦ rw e (omega arith)
      | inr e ↦ rw e (by_record steps (record_at records n) (λ r. chain_from steps records r.prev_volume) (λ r. chain-within steps records r.prev_volume))
    ]

cut-within : (records : List Redo) → ((r : Redo) → IsIn r records → r.lsn ≤ 2 ^ 62) → cut_of records ≤ 2 ^ 62
cut-within records low =
    elim (greatest_point-is records records) [
      | inl z ↦ (let z' : cut_of records ≡ 0 = z in omega (arith, z'))
      | inr t ↦ (let e : cut_of records ≡ t.0.lsn = t.3 in let l : t.0.lsn ≤ 2 ^ 62 = low t.0 t.1 in omega (arith, e, l))
    ]

-- ---- what a cut finds

count-above : (many said cut count : ℕ) → many ≤ said → many ≤ cut → cut ≤ 2 ^ 62 → count ≡ min said (2 ^ 64 - 1) → many ≤ count
count-above many said cut count few within low is = omega (arith, few, within, low, is)

groups-are : (groups : List ClientGroup) (before : Option Found) → (client_with groups before).groups ≡ groups
groups-are groups None = refl
groups-are groups (Some found) = refl

pub found-most : (group_states : List GroupState) (before : Option Found) (count : ℕ) → StepsAreFew → count ≡ min (records_in (reports_in (groups_of group_states))) (2 ^ 64 - 1)
    → length (log_reported (client_with (groups_of group_states) before)) ≤ count
found-most group_states before count law is =
    let groups : List ClientGroup = groups_of group_states in
    let client : Client = client_with groups before in
    let same : reported client ≡ reports_in groups = ap (λ gs. all_reports (reports_of gs) (length gs)) (groups-are groups before) ∙ all-reports groups in
    let live : live_reported client ≡ live_records groups = ap (λ reports. found_in (newest reports) reports) same in
    let ranges : (r : Redo) → IsIn r (live_reported client) → HasRanges r = λ r i. live-range group_states r (subst (λ rs. IsIn r rs) live i) in
    let fall : VolumeLinksFall (live_reported client) = λ r i. (ranges r i).prev_volume_before in
    let cut : ℕ = cut_of (live_reported client) in
    count-above (length (log_reported client)) (records_said client) cut count (law.found client fall) (chain-within cut (live_reported client) cut)
    (cut-within (live_reported client) (λ r i. (ranges r i).lsn_in_range)) (is ∙ ap (λ reports. min (records_in reports) (2 ^ 64 - 1)) (sym same))

-- ---- a log as long as its set

pub log-length : (set : RecordSet) → length (log_of_set set) ≡ length (records_of set)
log-length set = let whole : length (log_of_set set) ≡ length (records_of set) + length {A = Redo} [] = length-added (records_of set) [] in omega (arith, whole)

pub found-none : (groups : List ClientGroup) (before : Option Found) → before ≡ None → 0 ≡ length (client_with groups before).found
found-none groups before none = ap (λ f. length (client_with groups f).found) (sym none)

pub found-some : (groups : List ClientGroup) (before : Option Found) (found : Found) → before ≡ Some found → length (records_of found.log) ≡ length (client_with groups before).found
found-some groups before found there = sym (log-length found.log) ∙ ap (λ f. length (client_with groups f).found) (sym there)
