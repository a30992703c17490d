use Rattle.std.proofs.Common.{◌≡◌, ◌∙◌, ◌^◌, ◌≤◌, ◌∷◌, ◌++◌, [], List, length, length-append, append_assoc, take, refl, sym, ap, subst, arith}
use Rattle.volume_model.specs.Common.{added, Redo}
use Rattle.redo_record.specs.Common.{redo_of, left_of, records_of}
use Rattle.recovery.specs.Chains.{is_chain_to, IsChainTo}
use Rattle.recovery.proofs.Sharing.{added-more, chain-more, front-is, set-few}
use Rattle.recovery.proofs.chain.chain_length.Goals as goal

pub loop-last-init : goal.loop-last-init
loop-last-init c = ([], c.records-left.ensures.records, refl, refl)

pub loop-last-preserved : goal.loop-last-preserved
loop-last-preserved c =
    let done : List Redo = c.loop-last.invariant.0 in
    let r : Redo = redo_of c.record-record.result.now in
    let rest : List Redo = left_of c.next.new.self in
    let next : left_of c.loop-last.left ≡ r ∷ rest = c.in_ok-next.ensures.records ∙ ap (λ s. s ∷ rest) (sym c.record-record.ensures) in (
      done ++ r ∷ [],
      append_assoc done (r ∷ []) rest ∙ ap (λ (rs : List Redo). done ++ rs) (sym next) ∙ c.loop-last.invariant.1,
      omega (arith, c.loop-last.invariant.2, length-append done (r ∷ [])),
      chain-more c.loop-last.last r.lsn r (added done []) (added (done ++ r ∷ []) []) (added-more done r []) c.if-record-last.false refl c.loop-last.invariant.3,
    )

pub overflow_add-len : goal.overflow_add-len
overflow_add-len c =
    let done : List Redo = c.loop-last.invariant.0 in
    let few : length (records_of c.args.records.now) ≤ 2 ^ 62 = set-few c.args.records.now c.requires in
    omega (arith, c.loop-last.invariant.2, length-append done (left_of c.loop-last.left), ap length c.loop-last.invariant.1)

pub returns-clause-chain : goal.returns-clause-chain
returns-clause-chain c =
    let done : List Redo = c.loop-last.invariant.0 in
    let front : take c.loop-last.len (records_of c.args.records.now) ≡ done = front-is done (left_of c.loop-last.left) (records_of c.args.records.now) c.loop-last.len c.loop-last.invariant.1 c.loop-last.invariant.2 in
    subst (λ n. IsChainTo n (added (take c.loop-last.len (records_of c.args.records.now)) [])) c.loop-last-test.false
    (ap (λ (rs : List Redo). is_chain_to c.loop-last.last (added rs [])) front ∙ c.loop-last.invariant.3)

pub returns-clause-within : goal.returns-clause-within
returns-clause-within c =
    let done : List Redo = c.loop-last.invariant.0 in
    omega (arith, c.loop-last.invariant.2, length-append done (left_of c.loop-last.left), ap length c.loop-last.invariant.1)
