use Rattle.std.proofs.Common.{◌≡◌, ◌<◌, ◌%◌, length, All, ap, sym, subst, mod-lt, arith}
use Rattle.cert_search.specs.Dealing.{own_view, open_deque}
use Rattle.cert_search.proofs.Shares.{claims_below}
use Rattle.cert_search.proofs.Tables.{made_at, made_len, filled_more}
use Rattle.cert_search.proofs.table.deal_out.Goals as goal

-- there are as many deques as at the start
count_is : (c : goal.After-index_mut) → c.len.result ≡ length c.args.owns.now.items
count_is c =
    let workers = length c.args.owns.now.items in
    let long = made_len own_view (open_deque workers c.loop-claim.claim) workers c.loop-claim.owns.items c.loop-claim.invariant in
    omega (arith, long)

-- the deque whose turn it is
turn_is : (c : goal.After-index_mut) → own_view c.index_mut.result.now ≡ open_deque (length c.args.owns.now.items) c.loop-claim.claim (c.loop-claim.claim % c.len.result)
turn_is c =
    let workers = length c.args.owns.now.items in
    let n = c.loop-claim.claim in
    let some : 0 < c.len.result = omega (arith, count_is c, c.requires.some) in
    let lt : n % c.len.result < workers = omega (arith, count_is c, mod-lt n some) in
    made_at own_view (open_deque workers n) workers c.loop-claim.owns.items (n % c.len.result) c.index_mut.result.now c.loop-claim.invariant lt c.index_mut.ensures.value

pub deal-requires-clause-deals : goal.deal-requires-clause-deals
deal-requires-clause-deals c = ap (λ s. s.1.deals) (turn_is c)

pub deal-requires-clause-unended : goal.deal-requires-clause-unended
deal-requires-clause-unended c = ap (λ s. s.1.ended) (turn_is c)

pub deal-requires-clause-above : goal.deal-requires-clause-above
deal-requires-clause-above c =
    subst (λ s. All (λ x. x < c.loop-claim.claim) s.1.dealt) (sym (turn_is c)) (claims_below (length c.args.owns.now.items) (c.loop-claim.claim % c.len.result) c.loop-claim.claim)

pub loop-claim-preserved : goal.loop-claim-preserved
loop-claim-preserved c =
    let workers = length c.args.owns.now.items in
    let n = c.loop-claim.claim in
    let long = made_len own_view (open_deque workers n) workers c.loop-claim.owns.items c.loop-claim.invariant in
    let count : c.len.result ≡ workers = omega (arith, long) in
    let some : 0 < c.len.result = omega (arith, count, c.requires.some) in
    let lt : n % c.len.result < workers = omega (arith, count, mod-lt n some) in
    filled_more workers n (n % c.len.result) c.loop-claim.owns.items c.index_mut.result.now c.deal.new.self lt (ap (λ m. n % m) count) c.loop-claim.invariant c.index_mut.ensures.value c.deal.ensures.same c.in_ok-deal.ensures.dealt
