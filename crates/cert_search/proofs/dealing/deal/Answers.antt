use Rattle.std.proofs.Common.{◌-◌, ◌∙◌, map, sym, subst, arith}
use Rattle.cert_search.specs.Dealing.{names_in, row_plain, AreOut, AreRows, IsFilled}
use Rattle.cert_search.specs.Hands.{IsOfDeal, hand_plain, fresh_hand, AreHands}
use Rattle.cert_search.proofs.Rows.{all_of}
use Rattle.cert_search.proofs.Lents.{outs_at}
use Rattle.cert_search.proofs.Tables.{made_len, hands_made, hands_dealt, hands_deal, hands_share}
use Rattle.cert_search.proofs.dealing.deal.Goals as goal

-- the hands are those of the deal
hands_are : (c : goal.In_ok-hands_of) → AreHands (names_in c.in_ok-table.table.owns.items) c.args.claims c.args.workers c.in_ok-hands_of.field-0.items
hands_are c =
    let t = c.in_ok-table.table in
    let now = c.rows.new.self in
    let claims = c.args.claims in
    let workers = c.args.workers in
    let same = c.in_ok-table.ensures.workers in
    let filled = c.in_ok-table.ensures.filled in
    let rows = c.in_ok-rows.ensures.rows claims (subst (λ w. IsFilled claims w t.owns.items) (sym same) filled) in
    let lent = subst (λ w. AreOut w (w - 1) now.owns.items) same c.in_ok-rows.ensures.lent in
    c.in_ok-hands_of.ensures
    ∙ hands_made (names_in t.owns.items) claims workers 0 workers now.owns.items c.in_ok-rows.rows.items (c.in_ok-rows.ensures.same ∙ filled)
    (subst (λ w. AreRows (names_in t.owns.items) claims w w (map (λ row. row_plain row.items) c.in_ok-rows.rows.items)) same rows)
    (λ k o e. outs_at workers (workers - 1) now.owns.items k o (omega (arith, now.count, c.in_ok-rows.ensures.workers, same)) lent e)

pub returns-clause-count : goal.returns-clause-count
returns-clause-count c =
    let long = made_len hand_plain (fresh_hand (names_in c.in_ok-table.table.owns.items) c.args.claims c.args.workers) c.args.workers c.in_ok-hands_of.field-0.items (hands_are c) in
    omega (arith, long)

pub returns-clause-dealt : goal.returns-clause-dealt
returns-clause-dealt c = hands_dealt (names_in c.in_ok-table.table.owns.items) c.args.claims c.args.workers c.in_ok-hands_of.field-0.items (hands_are c)

pub returns-clause-shared : goal.returns-clause-shared
returns-clause-shared c = hands_share (names_in c.in_ok-table.table.owns.items) c.args.claims c.args.workers c.in_ok-hands_of.field-0.items (hands_are c)

pub returns-clause-same : goal.returns-clause-same
returns-clause-same c =
    let hands = c.in_ok-hands_of.field-0.items in
    all_of (IsOfDeal c.args.claims c.args.workers) hands (λ k h lt e. hands_deal (names_in c.in_ok-table.table.owns.items) c.args.claims c.args.workers hands (hands_are c) k h e)
