-- What a cut leaves.
use Rattle.std.proofs.Common.{◌≡◌, ℕ, zero, suc, ◌^◌, ◌≤◌, Bool, true, false, not, nat_lt, nat_eq, List, [], ◌∷◌, ◌++◌, Option, Some, None, Result, Ok, Err, is_some, length, take, get_or, if◌then◌else◌, refl, sym, ap, ap₂, ◌∙◌, inl, inr, arith, append-nil, add-one, IfOk}
use Rattle.std.proofs.lemmas.List.{take_more, take_all}
use Rattle.volume_model.specs.declared.fault.Fault.{Fault}
use Rattle.volume_model.specs.declared.fault.Fault.TheVariants.{LsnSpent, NoMemory, NotReady}
use Rattle.volume_model.specs.Common.{◌>>=◌, AnswersAfterGrowth, AnswersNew, Fails, Gives, may_run_out_of_memory, refuse_if, Plan, Redo, record_at, follow, chain_from, chain_or_none, ends_at_point, cut_of, log_found, Lineage, Contents, last_start, extended, extension, newest, contents_of, ClientGroup, ClientStep, ClientAnswer, no_group, reports_of, all_reports, has_read, cut_step, cut_client}
use Rattle.volume_model.specs.Lineage.{found_in}
use Rattle.volume_model.proofs.Chains.{record_at-some, record_at-there, greatest_point-is, greatest_point-above}
use Rattle.lineage.specs.Lineage.{lineage_of}
use Rattle.writer_core.specs.Logs.{log_of_set}
use Rattle.writer_core.specs.Groups.{keeping}
use Rattle.recovery.specs.declared.found.Found.{Found}
use Rattle.recovery.specs.Reported.{reports_in}
use Rattle.recovery.specs.Finds.{is_spent, live_records}
use Rattle.recovery.specs.Recoveries.{client_with, found_step}
use Rattle.recovery.proofs.OneMore.{reports-append}

-- ---- records that are found alike

module _ (a b : List Redo) (same : (n : ℕ) → record_at a n ≡ record_at b n) where
  chain_from-same : (steps n : ℕ) → chain_from steps a n ≡ chain_from steps b n
  chain_from-same zero n = refl
  chain_from-same (suc steps) n =
      ap (λ o. if nat_eq n 0 then Some [] else follow o (λ r. chain_from steps a r.prev_volume)) (same n)
      ∙ ap (λ o. if nat_eq n 0 then Some [] else o) (on (record_at b n) (λ r. chain_from-same steps r.prev_volume))
    where
      on : (o : Option Redo) → ((r : Redo) → chain_from steps a r.prev_volume ≡ chain_from steps b r.prev_volume) → follow o (λ r. chain_from steps a r.prev_volume) ≡ follow o (λ r. chain_from steps b r.prev_volume)
      on None h = refl
      on (Some r) h = ap (λ o. follow (Some r) (λ s. o)) (h r)

  cut-most : cut_of a ≤ cut_of b
  cut-most =
      elim (greatest_point-is a a) [
        | inl z ↦ (let z' : cut_of a ≡ 0 = z in omega (arith, z'))
        | inr t ↦ (
            let e : cut_of a ≡ t.0.lsn = t.3 in
            let (s, found) = record_at-there a t.0 t.1 in
            let (i, at) = record_at-some b t.0.lsn s (sym (same t.0.lsn) ∙ found) in
            let ends : ends_at_point (chain_from s.lsn b s.lsn) ≡ true = ap (λ n. ends_at_point (chain_from n b n)) at ∙ ap ends_at_point (sym (chain_from-same t.0.lsn t.0.lsn)) ∙ t.2 in
            let up : s.lsn ≤ cut_of b = greatest_point-above b b s i ends in
            omega (arith, e, at, up))
      ]

  pub chains-same : (steps n : ℕ) → chain_from steps a n ≡ chain_from steps b n
  chains-same = chain_from-same

pub cut-same : (a b : List Redo) → ((n : ℕ) → record_at a n ≡ record_at b n) → cut_of a ≡ cut_of b
cut-same a b same =
    let up : cut_of a ≤ cut_of b = cut-most a b same in
    let down : cut_of b ≤ cut_of a = cut-most b a (λ n. sym (same n)) in
    omega arith

pub log-same : (a b : List Redo) → ((n : ℕ) → record_at a n ≡ record_at b n) → chain_or_none (chain_from (cut_of a) a (cut_of a)) ≡ log_found b
log-same a b same = ap chain_or_none (chains-same a b same (cut_of a) (cut_of a)) ∙ ap (λ n. chain_or_none (chain_from n b n)) (cut-same a b same)

-- there is a chain from the cut
pub cut-there : (log : List Redo) → is_some (chain_from (cut_of log) log (cut_of log)) ≡ true
cut-there log =
    elim (greatest_point-is log log) [
      | inl z ↦ (let z' : cut_of log ≡ 0 = z in ap (λ n. is_some (chain_from n log n)) z')
      | inr t ↦ (let e : cut_of log ≡ t.0.lsn = t.3 in ap (λ n. is_some (chain_from n log n)) e ∙ some (chain_from t.0.lsn log t.0.lsn) t.2)
    ]
  where
    some : (o : Option (List Redo)) → ends_at_point o ≡ true → is_some o ≡ true
    some None h = h
    some (Some chain) h = refl

-- what is given is the value
abbrev okay : ℕ → Result ℕ Fault
okay n = Ok n

pub is_value : (m n : ℕ) → okay m ≡ okay n → n ≡ m
is_value m n h = cc

-- ---- the lineage's own entry

-- the lineage that is found, from its parts
pub found-lineage : (groups : List ClientGroup) (parent : Lineage) (volume cut own lal : ℕ) → parent ≡ newest (reports_in groups) → cut ≡ cut_of (live_records groups) → own ≡ lal
    → extension parent volume cut own ≡ extension (newest (reports_in groups)) volume (cut_of (live_records groups)) lal
found-lineage groups parent volume cut own lal p c l =
    ap (λ q. extension q volume cut own) p ∙ ap₂ (extension (newest (reports_in groups)) volume) c l

-- a fault of a call that makes something new is that of its definition
pub fails-new : {R T : Type 0} (view : R → T) (fault : Fault) (defined : Result T Fault) → AnswersNew view defined (Err fault) → Fails fault defined
fails-new view NoMemory defined h = tt
fails-new view fault defined h = h.0

-- ---- the client's cut

all-first : (groups : List ClientGroup) (n : ℕ) → n ≤ length groups → all_reports (reports_of groups) n ≡ reports_in (take n groups)
all-first groups zero h = none groups
  where
    none : (gs : List ClientGroup) → [] ≡ reports_in (take 0 gs)
    none [] = refl
    none (g ∷ gs) = refl
all-first groups (suc n) h =
    let inner : all_reports (reports_of groups) n ≡ reports_in (take n groups) = all-first groups n (omega arith) in
    ap (λ l. l ++ contents_of (reports_of groups n)) inner
    ∙ sym (ap reports_in (ap (λ k. take k groups) (sym (add-one n)) ∙ take_more groups n no_group (omega arith))
    ∙ reports-append (take n groups) (get_or groups n no_group ∷ [])
    ∙ ap (λ l. reports_in (take n groups) ++ l) (append-nil (contents_of (reports_of groups n))))

-- what a client's reports say, by its groups
pub all-reports : (groups : List ClientGroup) → all_reports (reports_of groups) (length groups) ≡ reports_in groups
all-reports groups = all-first groups (length groups) (omega arith) ∙ ap reports_in (take_all (length groups) groups (omega arith))

-- a cut, from the reports that the client has
abbrev cut_with : Plan → ℕ → List ClientGroup → List Contents → ClientAnswer
cut_with plan volume groups reported =
    let parent = newest reported in
    let records = found_in parent reported in
    refuse_if (not (has_read plan (keeping groups))) NotReady (
    extension parent volume (cut_of records) plan.lal >>= λ lineage. Ok (cut_step volume (keeping groups) (log_found records) lineage))

-- memory may be missing wherever enough is read
late-then : (b : Bool) (own : Lineage) (step : Lineage → ClientStep) → may_run_out_of_memory is_spent (refuse_if b LsnSpent (Ok own) >>= λ lineage. Ok (step lineage)) ≡ true
late-then true own step = refl
late-then false own step = refl

module _ (plan : Plan) (volume : ℕ) (groups : List ClientGroup) (before : Option Found) (none : before ≡ None) (ready : has_read plan (keeping groups) ≡ true) where
  -- the lineage that it finds
  abbrev found : Result Lineage Fault
  found = extension (newest (reports_in groups)) volume (cut_of (live_records groups)) plan.lal

  -- its step, under a lineage
  abbrev cut_under : Lineage → ClientStep
  cut_under lineage = cut_step volume (keeping groups) (log_found (live_records groups)) lineage

  cuts : cut_client plan volume (client_with groups before) ≡ (found >>= λ lineage. Ok (cut_under lineage))
  cuts =
      ap (λ b. cut_client plan volume (client_with groups b)) none
      ∙ ap (cut_with plan volume groups) (all-reports groups)
      ∙ ap (λ b. refuse_if (not b) NotReady (found >>= λ lineage. Ok (cut_under lineage))) ready

  -- what a recovery finds that hasn't cut, and has read enough, is what its cut leaves
  pub cut-found : (result : Result Found Fault) → Gives (λ f. lineage_of f.lineage) result found → IfOk result (λ f. log_of_set f.log ≡ log_found (live_records groups))
      → AnswersAfterGrowth is_spent (found_step volume) (cut_client plan volume (client_with groups before)) groups result groups
  cut-found (Ok f) h log =
      cuts ∙ ap (λ (r : Result Lineage Fault). r >>= λ lineage. Ok (cut_under lineage)) h
      ∙ ap (λ (l : List Redo). Ok (cut_step volume (keeping groups) l (lineage_of f.lineage))) (sym log)
  cut-found (Err NoMemory) h log =
      let own = extended (newest (reports_in groups)) volume (cut_of (live_records groups)) plan.lal in
      (ap (may_run_out_of_memory is_spent) cuts ∙ late-then (nat_lt (2 ^ 62) (last_start own)) own cut_under, refl)
  cut-found (Err fault) h log = (cuts ∙ ap (λ (r : Result Lineage Fault). r >>= λ lineage. Ok (cut_under lineage)) h, refl)
