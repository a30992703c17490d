use Rattle.std.proofs.Common.{◌≡◌, ◌+◌, ◌∷◌, [], length, length-append, ap, sym, ◌∙◌, map, zero-add, Vec, Global, ◌-◌, Some, subst, arith}
use Rattle.cert_search.specs.declared.steal_handle.StealHandle.{StealHandle}
use Rattle.cert_search.specs.Dealing.{names_in, row_plain, fresh_row, AreRows, IsFilled, LendsOthers}
use Rattle.cert_search.proofs.Tables.{range_push, same_names, filled_same}
use Rattle.cert_search.proofs.Lents.{rows_more}
use Rattle.cert_search.proofs.table.Table.rows.Goals as goal

pub loop-which-preserved : goal.loop-which-preserved
loop-which-preserved c =
    let was = c.args.self.now in
    let t = c.loop-which.self in
    let inv = c.loop-which.invariant in
    let which = c.loop-which.which in
    let plain = λ (row : Vec StealHandle Global). row_plain row.items in
    record {
      workers = c.in_ok-row.ensures.workers ∙ inv.workers;
      same = c.in_ok-row.ensures.same ∙ inv.same;
      lent = rows_more was.workers which t.owns.items c.row.new.self.owns.items (omega (arith, inv.workers)) inv.lent (subst (λ w. LendsOthers w which t.owns.items c.row.new.self.owns.items) inv.workers c.in_ok-row.ensures.lent);
      count = omega (arith, inv.count, ap length c.in_ok-push.ensures.items, length-append c.loop-which.rows.items (c.in_ok-row.field-0 ∷ []));
      rows = λ claims filled.
          let now = subst (λ w. IsFilled claims w t.owns.items) (sym inv.workers) (filled_same claims was.workers was.owns.items t.owns.items inv.same filled) in
          let names = same_names was.owns.items t.owns.items inv.same in
          let is : row_plain c.in_ok-row.field-0.items ≡ fresh_row (names_in was.owns.items) claims was.workers (0 + which) =
          c.in_ok-row.ensures.row claims now ∙ (λ i. fresh_row (names i) claims (inv.workers i) which) ∙ ap (fresh_row (names_in was.owns.items) claims was.workers) (sym (zero-add which)) in
          ap (map plain) c.in_ok-push.ensures.items ∙ range_push plain (fresh_row (names_in was.owns.items) claims was.workers) 0 which c.loop-which.rows.items c.in_ok-row.field-0 (inv.rows claims filled) is;
    }

pub returns-clause-rows : goal.returns-clause-rows
returns-clause-rows c = λ claims filled.
    let was = c.args.self.now in
    let inv = c.loop-which.invariant in
    let end : c.loop-which.which ≡ was.workers = omega (arith, inv.workers) in
    subst (λ n. AreRows (names_in was.owns.items) claims was.workers n (map (λ row. row_plain row.items) c.loop-which.rows.items)) end (inv.rows claims filled)

pub returns-clause-lent : goal.returns-clause-lent
returns-clause-lent c =
    let inv = c.loop-which.invariant in
    λ d lt. let end : c.loop-which.which ≡ c.args.self.now.workers = omega (arith, inv.workers) in
    inv.lent.past d (omega (arith, lt, end)) ∙ ap (λ n. Some (n - 1)) end
