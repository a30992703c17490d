use Rattle.std.proofs.Common.{sym, ◌∙◌, subst}
use Rattle.cert_search.specs.Dealing.{own_view, open_deque, IsFilledTo}
use Rattle.cert_search.proofs.Tables.{made_len, filled_all, filled_plain, none_out}
use Rattle.cert_search.proofs.table.Table.new.Goals as goal

pub deal_out-requires-clause-empty : goal.deal_out-requires-clause-empty
deal_out-requires-clause-empty c =
    let owns = c.in_ok-owns.owns.items in
    let long = made_len own_view (open_deque c.args.workers 0) c.args.workers owns c.in_ok-owns.ensures in
    subst (λ w. IsFilledTo w 0 owns) (sym long) c.in_ok-owns.ensures

pub invariant_of-result : goal.invariant_of-result
invariant_of-result c =
    let dealt = c.deal_out.new.owns.items in
    record {
      some = c.requires.some;
      few = c.requires.few;
      count = c.in_ok-close_all.ensures.as_many ∙ made_len own_view (open_deque c.args.workers c.args.claims) c.args.workers dealt (filled_all c.args.workers c.args.claims c.in_ok-owns.owns.items c.deal_out.new.owns.items c.in_ok-owns.ensures c.in_ok-deal_out.ensures);
    }

pub returns-clause-filled : goal.returns-clause-filled
returns-clause-filled c = filled_plain c.args.workers c.args.claims c.deal_out.new.owns.items c.close_all.new.owns.items (filled_all c.args.workers c.args.claims c.in_ok-owns.owns.items c.deal_out.new.owns.items c.in_ok-owns.ensures c.in_ok-deal_out.ensures) c.in_ok-close_all.ensures

pub returns-clause-none : goal.returns-clause-none
returns-clause-none c = none_out c.args.workers c.args.claims c.deal_out.new.owns.items c.close_all.new.owns.items (filled_all c.args.workers c.args.claims c.in_ok-owns.owns.items c.deal_out.new.owns.items c.in_ok-owns.ensures c.in_ok-deal_out.ensures) c.in_ok-close_all.ensures
