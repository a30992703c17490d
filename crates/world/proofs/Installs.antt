-- A whole member gets all that a recovery found of its group, and the recovery counts that.
use Rattle.std.proofs.Common.{◌≡◌, ℕ, zero, suc, ◌+◌, ◌<◌, ◌≤◌, true, false, ◌&&◌, ◌==◌, nat_lt, nat_le, if◌then◌else◌, List, [], ◌∷◌, ◌++◌, Option, Some, None, Ok, length, refl, sym, ap, ◌∙◌, subst, inl, inr, arith, slice_index_or, slice_set}
use Rattle.std.proofs.lemmas.Bool.{cases_Bool, cases_lt, and_parts, and_from, both_ways, eqb-true, eq-eqb, leb-true, lt-ltb, le-ltb, le-leb, lt-leb}
use Rattle.volume_model.specs.Common.{IsIn, added, put, put_at, Redo, last_of_group, of_group, scl, Contents, Lineage, last_epoch, KeptPiece, Piece, Pieces, contents_in, has_piece, is_bad_piece, is_complete, is_of_other, is_piece, most_in_piece, most_pieces, piece_of, pieces_of, united, with_install, Plan, IsCertified, epoch_of, has_member, is_named, Label, Message, Place, StepTo, Install, Ack, CopyAsk, NodeAnswer, NodeStep, ack_of, most_copies, in_group, installed, lineage_epoch, most_records, reaction, ClientAnswer, ClientGroup, counts_of, group_of, has_cut, if_born, is_born, no_group, place_of, stays, ack_taken, is_for, taken, reaching, with_count, to_install, World, after, groups_joined, Deliver, Take}
use Rattle.volume_model.specs.Node.{Node}
use Rattle.volume_model.specs.Client.{Client}
use Rattle.volume_model.proofs.AcksReach.{found_chain}
use Rattle.volume_model.proofs.Basics.{IsIn-append, IsIn-append_left, IsIn-append_right, any_from, any_passes, every_below-all, put_at-all}
use Rattle.volume_model.proofs.ClientSteps.{put-same}
use Rattle.volume_model.proofs.Groups.{length-slice_set, set-all}
use Rattle.volume_model.proofs.Invariant.{HasCut, IsCopy, IsMade, epoch_now, found_of, label, log_of}
use Rattle.volume_model.proofs.Logs.{IsChain}
use Rattle.volume_model.proofs.NodeSteps.{put_at-same}
use Rattle.volume_model.proofs.PieceLaws.{pieces_make_up}
use Rattle.volume_model.proofs.Pieces.{part_of_piece}
use Rattle.volume_model.proofs.Records.{of_group-from}
use Rattle.volume_model.specs.declared.fault.Fault.TheVariants.{NoActor, NotAddressed}
use Rattle.world.proofs.Chained.{complete_up_to_last}
use Rattle.world.proofs.Counts.{reaching-keeps, reaching-new}
use Rattle.world.proofs.Installing.{CanCopy, IsCounted, IsInstalled, IsInstalling, IsReady, IsRecovering, IsUnstarted, KeepsReady, at, client_on, epoch_at, is_member, node_on, place_at}
use Rattle.world.proofs.Readable.{Reaches, delivered, each_has, every_below_true, every_true, has_number, passes, reach_none, reach_one, reach_then, set-here, some_below_true, took}

-- ---- the first pieces of contents

module _ (q : Contents) (of v : ℕ) where
  -- the piece with a number
  abbrev pub nth_piece : ℕ → Piece
  nth_piece k = record { number = k; of = of }

  -- the pieces with the numbers below k, as a node keeps them that gets them in order
  abbrev pub first_kept : ℕ → List KeptPiece
  first_kept zero = []
  first_kept (suc k) = first_kept k ++ record { number = k; contents = piece_of q k } ∷ []

  -- the first k pieces, as those of series v
  abbrev pub first_pieces : ℕ → Pieces
  first_pieces k = record { series = v; of = of; kept = first_kept k }

  -- each of the first k pieces has a number below k
  first_below : (k : ℕ) (kept : KeptPiece) → IsIn kept (first_kept k) → kept.number < k
  first_below zero kept i = absurd i
  first_below (suc k) kept i =
      elim (IsIn-append (first_kept k) (record { number = k; contents = piece_of q k } ∷ []) kept i) [
        | inl j ↦ (let b : kept.number < k = first_below k kept j in omega arith)
        | inr j ↦ elim j [
          | inl e ↦ (let n : kept.number ≡ k = ap (λ (z : KeptPiece). z.number) e in omega arith)
          | inr none ↦ absurd none
        ]
      ]

  -- the first k pieces don't have the piece k, or one above
  first_lacks : (k n : ℕ) → k ≤ n → has_piece (first_pieces k) n ≡ false
  first_lacks k n l =
      elim (cases_Bool (has_piece (first_pieces k) n)) [
        | inl has ↦ (
            let (kept, i, test) = any_passes (λ (kept : KeptPiece). kept.number == n) (first_kept k) has in
            let b : kept.number < k = first_below k kept i in
            let e : kept.number ≡ n = eqb-true kept.number n test in
            absurd (omega arith))
        | inr lacks ↦ lacks
      ]

  -- they have each one below k
  first_has : (k n : ℕ) → n < k → has_piece (first_pieces k) n ≡ true
  first_has k n l = any_from (λ (kept : KeptPiece). kept.number == n) (first_kept k) (record { number = n; contents = piece_of q n }) (there k l) (eq-eqb n n refl)
    where
      there : (k : ℕ) → n < k → IsIn (record { number = n; contents = piece_of q n }) (first_kept k)
      there zero l = absurd (omega arith)
      there (suc k) l =
          elim (cases_lt n k) [
            | inl lower ↦ IsIn-append_left (first_kept k) (record { number = k; contents = piece_of q k } ∷ []) _ (there k lower)
            | inr last ↦ (let e : n ≡ k = omega arith in
                IsIn-append_right (first_kept k) (record { number = k; contents = piece_of q k } ∷ []) _ (inl (ap (λ m. record { number = m; contents = piece_of q m }) e)))
          ]

  -- fewer than all aren't complete
  some_incomplete : (k : ℕ) → k < of → is_complete (first_pieces k) ≡ false
  some_incomplete k l =
      elim (cases_Bool (is_complete (first_pieces k))) [
        | inl all ↦ absurd (both_ways _ (first_lacks k k (omega arith)) (every_below-all of (has_piece (first_pieces k)) all k l))
        | inr some ↦ some
      ]

  -- all are complete
  all_complete : is_complete (first_pieces of) ≡ true
  all_complete = every_below_true of (has_piece (first_pieces of)) (λ n l. first_has of n l)

  -- the next piece joins the first ones
  next_joins : (k : ℕ) → with_install (Some (first_pieces k)) v (nth_piece k) (piece_of q k) ≡ first_pieces (suc k)
  next_joins k = rw (eq-eqb v v refl, first_lacks k k (omega arith)) refl

  -- and is no bad one
  next_fits : (k : ℕ) → is_of_other (Some (first_pieces k)) v (nth_piece k) ≡ false
  next_fits k = rw (eq-eqb v v refl, eq-eqb of of refl) refl

  -- the first piece takes the place of those of another recovery
  first_joins : (install : Option Pieces) → ((pieces : Pieces) → install ≡ Some pieces → pieces.series ≡ v → ⊥)
      → (with_install install v (nth_piece 0) (piece_of q 0) ≡ first_pieces 1) × (is_of_other install v (nth_piece 0) ≡ false)
  first_joins None other = (refl, refl)
  first_joins (Some pieces) other =
      elim (cases_Bool (pieces.series == v)) [
        | inl same ↦ absurd (other pieces refl (eqb-true pieces.series v same))
        | inr differ ↦ (rw differ refl, rw differ refl)
      ]

-- ---- what a node does with a piece

module _ (group member : ℕ) (node : Node) (l : Label) (piece : Piece) (c : Contents) where
  -- a node that has the install only acknowledges it
  installed_before : lineage_epoch node ≡ l.volume → installed group member node l piece c ≡ record { made = ack_of group member l node.contents.records ∷ []; node = record node { volume = l.volume } }
  unfolding installed
  installed_before same = rw (eq-eqb (lineage_epoch node) l.volume same) refl

  -- one that lacks pieces keeps the piece
  installed_part : (pieces : Pieces) → (lineage_epoch node == l.volume) ≡ false → with_install node.install l.volume piece c ≡ pieces → is_complete pieces ≡ false
      → installed group member node l piece c ≡ record { made = []; node = record node { volume = l.volume; install = Some pieces } }
  unfolding installed
  installed_part pieces older joins part = rw (older, joins, part) refl

  -- with the last piece it replaces what it holds
  installed_all : (pieces : Pieces) → (lineage_epoch node == l.volume) ≡ false → with_install node.install l.volume piece c ≡ pieces → is_complete pieces ≡ true
      → installed group member node l piece c ≡ record {
        made = ack_of group member l (united (contents_in pieces)) ∷ [];
        node = record node { volume = l.volume; contents = record { lineage = c.lineage; records = united (contents_in pieces) }; install = None };
      }
  unfolding installed
  installed_all pieces older joins all = rw (older, joins, all) refl

  -- a piece of a valid label, with good records, that fits the kept ones is refused by no test
  piece_passes : (plan : Plan) → in_group group c ≡ true → l.member ≡ node.place.epoch → node.whole ≡ true → node.volume ≤ l.volume
      → is_piece piece c ≡ true → is_of_other node.install l.volume piece ≡ false
      → ◌≡◌ {A = NodeAnswer} (reaction plan group member node (Install group l piece c)) (Ok (installed group member node l piece c))
  piece_passes plan own at whole volume good fits =
      let rest : NodeAnswer = Ok (installed group member node l piece c) in
      let few : piece.of ≤ most_pieces = leb-true piece.of most_pieces (and_parts (nat_le piece.of most_pieces) _ (and_parts (nat_lt piece.number piece.of) _ good).1).0 in
      let fine : is_bad_piece node.install l.volume piece c ≡ false = rw (good, fits) refl in
      rw (eq-eqb group group refl, own, le-ltb l.member node.place.epoch (omega arith), le-ltb node.place.epoch l.member (omega arith), whole, le-ltb l.volume node.volume volume, le-ltb most_pieces piece.of few, fine) refl

-- ---- steps of one member

-- a value that is put twice
put_twice : {A : Type 0} (f f' : ℕ → ℕ → A) (g x : ℕ) (first last : A) → ((h y : ℕ) → f' h y ≡ put_at f g x first h y) → (h y : ℕ) → put_at f' g x last h y ≡ put_at f g x last h y
put_twice f f' g x first last same h y =
    elim (cases_Bool (h == g && y == x)) [
      | inl here ↦ rw here refl
      | inr there ↦ rw there (rw there at (same h y))
    ]

module _ (plan : Plan) (certified : IsCertified plan) (v : ℕ) (now : List ℕ) (line : Lineage) (records : List Redo) where
  -- the epoch of a group
  abbrev epoch : ℕ → ℕ
  epoch g = epoch_at plan v now line records g

  -- a group that has joined is one of the plan
  in_plan : (u : World) → IsRecovering plan v now line records u → (g : ℕ) → g < length now → g < plan.groups
  in_plan u r g l =
      let w : groups_joined u.authority ≤ plan.groups = r.in_run.kept.authority.within in
      let e : length u.authority.configurations ≡ length now = ap length r.configurations in
      omega arith

  -- the group's configuration is one of the plan
  there_at : (u : World) → IsRecovering plan v now line records u → (g : ℕ) → g < length now → slice_index_or now g 0 < plan.configurations g
  there_at u r g l = subst (λ (cs : List ℕ). slice_index_or cs g 0 < plan.configurations g) r.configurations (r.in_run.kept.authority.there g (in_plan u r g l))

  -- the plan names the members of the configuration
  named_at : (u : World) → IsRecovering plan v now line records u → (g x : ℕ) → g < length now → is_member plan v now line records g x ≡ true → is_named plan g x ≡ true
  named_at u r g x l member =
      and_from (nat_lt g plan.groups) _ (lt-ltb g plan.groups (in_plan u r g l))
      (some_below_true (plan.configurations g) (λ c. has_member (plan.configuration g c) x) (slice_index_or now g 0) (there_at u r g l) member)

  -- some deliveries to one member led from a world to another
  record Changes (u w : World) (g x : ℕ) : Type 0 where
    reach : Reaches plan u w
    recovering : IsRecovering plan v now line records w
    clients : w.clients ≡ u.clients
    nodes : (h y : ℕ) → w.nodes h y ≡ put_at u.nodes g x (w.nodes g x) h y
    copied : (w.nodes g x).copied ≡ (u.nodes g x).copied

  -- no delivery changes nothing
  changes_none : (u : World) → IsRecovering plan v now line records u → (g x : ℕ) → Changes u u g x
  changes_none u r g x = record {
    reach = reach_none plan u;
    recovering = r;
    clients = refl;
    nodes = put_at-all (λ h y node. u.nodes h y ≡ node) u.nodes g x (u.nodes g x) refl (λ h y. refl);
    copied = refl;
  }

  -- what is so of each node before, and of the member now, is so of each node now
  changes_all : (u w : World) (g x : ℕ) → Changes u w g x → (P : ℕ → ℕ → Node → Type 0) → P g x (w.nodes g x) → ((h y : ℕ) → P h y (u.nodes h y)) → (h y : ℕ) → P h y (w.nodes h y)
  changes_all u w g x c P new old h y = subst (P h y) (sym (c.nodes h y)) (put_at-all P u.nodes g x (w.nodes g x) new old h y)

  -- one delivery more
  delivered_to : (u w : World) (g x : ℕ) → g < length now → is_named plan g x ≡ true → Changes u w g x → (m : Message) → IsMade w m
      → (step : NodeStep) → ◌≡◌ {A = NodeAnswer} (reaction plan g x (w.nodes g x) m) (Ok step)
      → step.node.volume ≤ v → step.node.whole ≡ true → 1 ≤ step.node.place.epoch → step.node.copied ≡ (w.nodes g x).copied
      → (later : World) × Changes u later g x × (later.nodes g x ≡ step.node) × (later.messages ≡ added step.made w.messages)
  delivered_to u w g x l named c m made step is volume whole positive same =
      let (n, few, found) = has_number w.messages m made in
      let there : g < groups_joined w.authority = subst (λ (cs : List ℕ). g < length cs) (sym c.recovering.configurations) l in
      let e : after plan w (Deliver g x n) ≡ record w { nodes = put_at w.nodes g x step.node; messages = added step.made w.messages } = delivered plan w g x n m step there named found is in
      let r : IsRecovering plan v now line records (after plan w (Deliver g x n)) =
      node_on plan certified v now line records w c.recovering (Deliver g x n) g x step.node step.made e volume (λ h. positive) (λ un h. absurd (both_ways _ un whole)) in
      let here : (after plan w (Deliver g x n)).nodes g x ≡ step.node = ap (λ (z : World). z.nodes g x) e ∙ put_at-same w.nodes g x step.node in (
        after plan w (Deliver g x n),
        record {
          reach = reach_then plan u w (after plan w (Deliver g x n)) c.reach (reach_one plan w (Deliver g x n));
          recovering = r;
          clients = ap (λ (z : World). z.clients) e ∙ c.clients;
          nodes = λ h y. ap (λ (z : World). z.nodes h y) e ∙ put_twice u.nodes w.nodes g x (w.nodes g x) step.node c.nodes h y ∙ ap (λ (node : Node). put_at u.nodes g x node h y) (sym here);
          copied = ap (λ (node : Node). node.copied) here ∙ same ∙ c.copied;
        },
        here,
        ap (λ (z : World). z.messages) e,
      )

  -- the member is whole at the group's place, and keeps no piece of the recovery's install
  record IsThere (w : World) (g x : ℕ) : Type 0 where
    whole : (w.nodes g x).whole ≡ true
    epoch_is : (w.nodes g x).place.epoch ≡ epoch g
    unstarted : IsUnstarted plan v now line records (w.nodes g x)

  -- a whole member learns of the group's step, if it hasn't
  stepped : (u : World) → IsRecovering plan v now line records u → (g x : ℕ) → g < length now → is_named plan g x ≡ true → (u.nodes g x).whole ≡ true
      → IsUnstarted plan v now line records (u.nodes g x) → (w : World) × Changes u w g x × IsThere w g x
  stepped u r g x l named whole unstarted =
      let node : Node = u.nodes g x in
      let one : 1 ≤ node.place.epoch = r.placed_on g x whole in
      let now_is : epoch_now plan u g ≡ epoch g = ap (λ (cs : List ℕ). epoch_of plan g (slice_index_or cs g 0)) r.configurations in
      let here : node.place.epoch ≤ epoch g = elim (r.in_run.kept.nodes g x (in_plan u r g l)).place [
        | inl zero' ↦ omega arith
        | inr p ↦ (let t : node.place.epoch ≤ epoch_now plan u g = p.there in omega (arith, t, now_is))
      ] in
      elim (cases_lt node.place.epoch (epoch g)) [
        | inl lower ↦ elim (r.step g) [
          | inl root ↦ (
              let first : epoch g ≡ 1 = ap (epoch_of plan g) root ∙ certified.root_epoch g (in_plan u r g l) in
              absurd (omega arith))
          | inr made ↦ (
              let to : Place = place_at plan v now line records g in
              let step : NodeStep = record { made = if node.whole then [] else CopyAsk g (epoch g) ∷ []; node = record node { place = to; copies = []; install = None } } in
              let is : ◌≡◌ {A = NodeAnswer} (reaction plan g x node (StepTo g to)) (Ok step) =
              rw (eq-eqb g g refl, lt-leb (epoch g) node.place.epoch lower, lt-ltb (slice_index_or now g 0) (plan.configurations g) (there_at u r g l), eq-eqb (epoch g) (epoch g) refl) refl in
              let (w, c, same, said) = delivered_to u u g x l named (changes_none u r g x) (StepTo g to) made step is (r.volume g x) whole (omega arith) refl in (
                w,
                c,
                record {
                  whole = ap (λ (n : Node). n.whole) same ∙ whole;
                  epoch_is = ap (λ (n : Node). n.place.epoch) same;
                  unstarted = subst (IsUnstarted plan v now line records) (sym same) (λ pieces none. absurd (no_pieces pieces none));
                },
              ))
        ]
        | inr upper ↦ (u, changes_none u r g x, record { whole = whole; epoch_is = omega arith; unstarted = unstarted })
      ]
    where
      no_pieces : (pieces : Pieces) → ◌≡◌ {A = Option Pieces} None (Some pieces) → ⊥
      no_pieces pieces e = cc

  -- what the recovery installs in a group, and in how many pieces
  abbrev whole_log : ℕ → Contents
  whole_log g = to_install line records g

  -- the number of its pieces
  abbrev pieces_at : ℕ → ℕ
  pieces_at g = pieces_of (length (of_group g records))

  -- a piece with its number
  abbrev piece_at : ℕ → ℕ → Piece
  piece_at g k = nth_piece (whole_log g) (pieces_at g) v k

  -- the first pieces of the install in a group
  abbrev first_at : ℕ → ℕ → Pieces
  first_at g k = first_pieces (whole_log g) (pieces_at g) v k

  -- there aren't more pieces than a node takes
  few_pieces : (g : ℕ) → length (of_group g records) ≤ most_records → pieces_at g ≤ most_pieces
  few_pieces g few = (pieces_make_up.number (length (of_group g records))).fewest most_pieces (omega arith) few

  -- each piece is a good one
  is_good : (g k : ℕ) → length (of_group g records) ≤ most_records → k < pieces_at g → is_piece (piece_at g k) (piece_of (whole_log g) k) ≡ true
  is_good g k few l =
      and_from (nat_lt k (pieces_at g)) _ (lt-ltb k (pieces_at g) l)
      (and_from (nat_le (pieces_at g) most_pieces) _ (le-leb (pieces_at g) most_pieces (few_pieces g few))
      (le-leb (length (piece_of (whole_log g) k).records) most_in_piece (pieces_make_up.small (of_group g records) k)))

  -- its records are of the group
  is_own : (g k : ℕ) → in_group g (piece_of (whole_log g) k) ≡ true
  is_own g k =
      every_true (λ r. r.group == g) (piece_of (whole_log g) k).records
      (λ r i. eq-eqb r.group g (of_group-from g records r (part_of_piece (whole_log g) (piece_at g k) (piece_of (whole_log g) k) (record { of = refl; is = refl }) r i)).1)

  -- it was made
  is_made : (u : World) → IsRecovering plan v now line records u → (g k : ℕ) → g < length now → k < pieces_at g → IsMade u (Install g (label v (epoch g)) (piece_at g k) (piece_of (whole_log g) k))
  is_made u r g k l m =
      r.pieces g l _ (each_has (pieces_at g) (λ number. Install g (label v (epoch g)) (piece_at g number) (piece_of (whole_log g) number)) k m)

  -- the member is whole at the group's place, has an older lineage, and takes the piece with this number next
  record Awaits (w : World) (g x k : ℕ) : Type 0 where
    whole : (w.nodes g x).whole ≡ true
    epoch_is : (w.nodes g x).place.epoch ≡ epoch g
    older : (lineage_epoch (w.nodes g x) == v) ≡ false
    fits : is_of_other (w.nodes g x).install v (piece_at g k) ≡ false
    joins : with_install (w.nodes g x).install v (piece_at g k) (piece_of (whole_log g) k) ≡ first_at g (suc k)

  -- the member has the install, and has acknowledged what it holds
  record HasAcked (w : World) (g x : ℕ) : Type 0 where
    installed_is : IsInstalled plan v now line records w g x
    unstarted : IsUnstarted plan v now line records (w.nodes g x)
    acked : IsMade w (Ack g (label v (epoch g)) x (scl (w.nodes g x).contents.records))

  -- a node that keeps no install keeps no piece of the recovery's
  none_kept : (node : Node) → node.install ≡ None → IsUnstarted plan v now line records node
  none_kept node none pieces is series = absurd (differ (sym none ∙ is))
    where
      differ : ◌≡◌ {A = Option Pieces} None (Some pieces) → ⊥
      differ e = cc

  module _ (u : World) (g x : ℕ) (l : g < length now) (named : is_named plan g x ≡ true) (few : length (of_group g records) ≤ most_records) (head : last_epoch line ≡ v) where
    -- the pieces that are left are delivered, and the last one makes the acknowledgement
    all_pieces : (left k : ℕ) → k + suc left ≡ pieces_at g → (w : World) → Changes u w g x → Awaits w g x k → (later : World) × Changes u later g x × HasAcked later g x
    all_pieces zero k count w c a =
        let node : Node = w.nodes g x in
        let c' : Contents = piece_of (whole_log g) k in
        let lab : Label = label v (epoch g) in
        let last : suc k ≡ pieces_at g = omega arith in
        let all : is_complete (first_at g (suc k)) ≡ true = subst (λ n. is_complete (first_at g n) ≡ true) (sym last) (all_complete (whole_log g) (pieces_at g) v) in
        let held : List Redo = united (contents_in (first_at g (suc k))) in
        let step : NodeStep = record { made = ack_of g x lab held ∷ []; node = record node { volume = v; contents = record { lineage = line; records = held }; install = None } } in
        let is : ◌≡◌ {A = NodeAnswer} (reaction plan g x node (Install g lab (piece_at g k) c')) (Ok step) =
        piece_passes g x node lab (piece_at g k) c' plan (is_own g k) (sym a.epoch_is) a.whole (c.recovering.volume g x) (is_good g k few (omega arith)) a.fits
        ∙ ap (λ (s : NodeStep). Ok s) (installed_all g x node lab (piece_at g k) c' (first_at g (suc k)) a.older a.joins all) in
        let (later, c2, same, said) = delivered_to u w g x l named c _ (is_made w c.recovering g k l (omega arith)) step is (omega arith) a.whole (c.recovering.placed_on g x a.whole) refl in (
          later,
          c2,
          record {
            installed_is = record {
              whole = ap (λ (n : Node). n.whole) same ∙ a.whole;
              lineage = ap (λ (n : Node). lineage_epoch n) same ∙ head;
              epoch = ap (λ (n : Node). n.place.epoch) same ∙ a.epoch_is;
            };
            unstarted = none_kept (later.nodes g x) (ap (λ (n : Node). n.install) same);
            acked = subst (λ (n : Node). IsMade later (Ack g lab x (scl n.contents.records))) (sym same) (subst (λ ms. IsIn (Ack g lab x (scl held)) ms) (sym said) (inl refl));
          },
        )
    all_pieces (suc left) k count w c a =
        let node : Node = w.nodes g x in
        let c' : Contents = piece_of (whole_log g) k in
        let lab : Label = label v (epoch g) in
        let pieces : Pieces = first_at g (suc k) in
        let part : is_complete pieces ≡ false = some_incomplete (whole_log g) (pieces_at g) v (suc k) (omega arith) in
        let step : NodeStep = record { made = []; node = record node { volume = v; install = Some pieces } } in
        let is : ◌≡◌ {A = NodeAnswer} (reaction plan g x node (Install g lab (piece_at g k) c')) (Ok step) =
        piece_passes g x node lab (piece_at g k) c' plan (is_own g k) (sym a.epoch_is) a.whole (c.recovering.volume g x) (is_good g k few (omega arith)) a.fits
        ∙ ap (λ (s : NodeStep). Ok s) (installed_part g x node lab (piece_at g k) c' pieces a.older a.joins part) in
        let (later, c2, same, said) = delivered_to u w g x l named c _ (is_made w c.recovering g k l (omega arith)) step is (omega arith) a.whole (c.recovering.placed_on g x a.whole) refl in
        let kept : (later.nodes g x).install ≡ Some pieces = ap (λ (n : Node). n.install) same in
        all_pieces left (suc k) (omega arith) later c2 (record {
          whole = ap (λ (n : Node). n.whole) same ∙ a.whole;
          epoch_is = ap (λ (n : Node). n.place.epoch) same ∙ a.epoch_is;
          older = ap (λ (n : Node). lineage_epoch n == v) same ∙ a.older;
          fits = ap (λ (install : Option Pieces). is_of_other install v (piece_at g (suc k))) kept ∙ next_fits (whole_log g) (pieces_at g) v (suc k);
          joins = ap (λ (install : Option Pieces). with_install install v (piece_at g (suc k)) (piece_of (whole_log g) (suc k))) kept ∙ next_joins (whole_log g) (pieces_at g) v (suc k);
        })

    -- a member at the group's place gets the install, and acknowledges it
    installs_on : (w : World) → Changes u w g x → IsThere w g x → (later : World) × Changes u later g x × HasAcked later g x
    installs_on w c a =
        let node : Node = w.nodes g x in
        let one : 1 ≤ pieces_at g = (pieces_make_up.number (length (of_group g records))).one in
        let (joins, fits) = first_joins (whole_log g) (pieces_at g) v node.install a.unstarted in
        elim (cases_Bool (lineage_epoch node == v)) [
          | inl has ↦ (
              let c' : Contents = piece_of (whole_log g) 0 in
              let lab : Label = label v (epoch g) in
              let same_epoch : lineage_epoch node ≡ v = eqb-true (lineage_epoch node) v has in
              let step : NodeStep = record { made = ack_of g x lab node.contents.records ∷ []; node = record node { volume = v } } in
              let is : ◌≡◌ {A = NodeAnswer} (reaction plan g x node (Install g lab (piece_at g 0) c')) (Ok step) =
              piece_passes g x node lab (piece_at g 0) c' plan (is_own g 0) (sym a.epoch_is) a.whole (c.recovering.volume g x) (is_good g 0 few (omega arith)) fits
              ∙ ap (λ (s : NodeStep). Ok s) (installed_before g x node lab (piece_at g 0) c' same_epoch) in
              let (later, c2, same, said) = delivered_to u w g x l named c _ (is_made w c.recovering g 0 l (omega arith)) step is (omega arith) a.whole (c.recovering.placed_on g x a.whole) refl in (
                later,
                c2,
                record {
                  installed_is = record {
                    whole = ap (λ (n : Node). n.whole) same ∙ a.whole;
                    lineage = ap (λ (n : Node). lineage_epoch n) same ∙ same_epoch;
                    epoch = ap (λ (n : Node). n.place.epoch) same ∙ a.epoch_is;
                  };
                  unstarted = λ pieces some. a.unstarted pieces (sym (ap (λ (n : Node). n.install) same) ∙ some);
                  acked = subst (λ (n : Node). IsMade later (Ack g lab x (scl n.contents.records))) (sym same) (subst (λ ms. IsIn (Ack g lab x (scl node.contents.records)) ms) (sym said) (inl refl));
                },
              ))
          | inr lacks ↦ (
              let (left, count) = before (pieces_at g) one in
              all_pieces left 0 count w c (record { whole = a.whole; epoch_is = a.epoch_is; older = lacks; fits = fits; joins = joins }))
        ]
      where
        before : (n : ℕ) → 1 ≤ n → (left : ℕ) × (0 + suc left ≡ n)
        before zero h = absurd (omega arith)
        before (suc n) h = (n, omega arith)

  -- ---- the recovery counts it

  -- the acknowledgement says at least the last number that the recovery found of the group
  ack_reaches : (w : World) → IsRecovering plan v now line records w → (g x : ℕ) → g < length now → IsInstalled plan v now line records w g x → last_of_group g records ≤ scl (w.nodes g x).contents.records
  ack_reaches w r g x l i =
      let node : Node = w.nodes g x in
      let copy : IsCopy w g node.contents = ((r.in_run.kept.nodes g x (in_plan w r g l)).whole i.whole).copy in
      let cut : HasCut w v = ap has_cut r.stage in
      let chain : IsChain records = subst IsChain r.found (found_chain plan certified w r.in_run.kept v cut) in
      let within : (t : Redo) → IsIn t node.contents.records → IsIn t records = λ t j. subst (λ (rs : List Redo). IsIn t rs) (ap (λ e. log_of w e) i.lineage ∙ r.log) (copy.records t j).0 in
      let has : (t : Redo) → IsIn t records → t.group ≡ g → IsIn t node.contents.records = λ t j h. copy.found t (subst (λ (rs : List Redo). IsIn t rs) (sym (ap (λ e. found_of w e) i.lineage ∙ r.found)) j) h in
      complete_up_to_last g node.contents.records records chain within has

  -- the recovery takes an acknowledgement
  counted_on : (w : World) → IsRecovering plan v now line records w → (g x : ℕ) → g < length now → x < 64 → (s : ℕ) → IsMade w (Ack g (label v (epoch g)) x s) → last_of_group g records ≤ s
      → (later : World) × Reaches plan w later × IsRecovering plan v now line records later × (later.nodes ≡ w.nodes) × IsCounted plan v now line records later g x
      × ((h y : ℕ) → IsCounted plan v now line records w h y → IsCounted plan v now line records later h y)
  counted_on w r g x l small s made reaches =
      let client : Client = w.clients v in
      let lab : Label = label v (epoch g) in
      let old : ClientGroup = group_of client.groups g in
      let counted : ClientGroup = record old { counts = with_count x s old.counts } in
      let groups : List ClientGroup = slice_set client.groups g counted in
      let next : Client = record client { groups = groups } in
      let (n, few, found) = has_number w.messages (Ack g lab x s) made in
      let at_is : old.place.epoch ≡ epoch g = ap (λ (p : Place). p.epoch) (r.places g l) in
      let is_taken : ack_taken plan client g lab x s ≡ next = rw (r.stage, le-leb (epoch g) old.place.epoch (omega arith)) refl in
      let good : is_for v plan.groups (Ack g lab x s) ≡ true =
      and_from (v == v) _ (eq-eqb v v refl) (and_from (nat_lt g plan.groups) (nat_lt x 64) (lt-ltb g plan.groups (in_plan w r g l)) (lt-ltb x 64 small)) in
      let born : is_born client.stage ≡ true = ap is_born r.stage in
      let is : ◌≡◌ {A = ClientAnswer} (taken plan v client (Ack g lab x s)) (Ok (stays next)) =
      passes (is_for v plan.groups (Ack g lab x s)) NotAddressed (if_born client (Ok (stays (ack_taken plan client g lab x s)))) good
      ∙ passes (is_born client.stage) NoActor (Ok (stays (ack_taken plan client g lab x s))) born
      ∙ ap (λ (c : Client). Ok (stays c)) is_taken in
      let later : World = after plan w (Take v n) in
      let e : later ≡ record w { clients = put w.clients v next; messages = w.messages } = took plan w v n (Ack g lab x s) (stays next) found is in
      let here : later.clients v ≡ next = ap (λ (z : World). z.clients v) e ∙ put-same w.clients v next in
      let inside : g < length client.groups = (let k : length client.groups ≡ length now = r.groups in omega arith) in
      let new : reaching (counts_of groups g) (last_of_group g records) x ≡ true =
      subst (λ (group : ClientGroup). reaching group.counts (last_of_group g records) x ≡ true) (sym (set-here client.groups g counted inside)) (reaching-new x s old.counts (last_of_group g records) reaches) in
      let still : (h y : ℕ) → IsCounted plan v now line records w h y → reaching (counts_of groups h) (last_of_group h records) y ≡ true = λ h y.
      set-all no_group (λ j group. reaching (counts_of client.groups j) (last_of_group j records) y ≡ true → reaching group.counts (last_of_group j records) y ≡ true) client.groups g counted
      (reaching-keeps x s old.counts (last_of_group g records) y) (λ j k. k) h in (
        later,
        reach_one plan w (Take v n),
        client_on plan certified v now line records w r (Take v n) groups e (length-slice_set client.groups g counted)
            (set-all no_group (λ j group. group.place ≡ place_of client.groups j) client.groups g counted refl (λ j. refl)),
        ap (λ (z : World). z.nodes) e,
        subst (λ (c : Client). reaching (counts_of c.groups g) (last_of_group g records) x ≡ true) (sym here) new,
        (λ h y k. subst (λ (c : Client). reaching (counts_of c.groups h) (last_of_group h records) y ≡ true) (sym here) (still h y k)),
      )

  -- ---- all of it

  -- A whole member of a group's configuration gets all that the recovery found of the group, and the recovery counts its
  -- acknowledgement.
  pub installed_one : last_epoch line ≡ v → (u : World) → IsInstalling plan v now line records u → (g x : ℕ) → g < length now → is_member plan v now line records g x ≡ true → x < 64
      → (u.nodes g x).whole ≡ true → length (of_group g records) ≤ most_records
      → (later : World) × Reaches plan u later × IsInstalling plan v now line records later × KeepsReady plan v now line records u later
      × ((n : ℕ) → CanCopy u n → CanCopy later n) × IsReady plan v now line records later g x
  installed_one head u i g x l member small whole few =
      let named : is_named plan g x ≡ true = named_at u i.recovering g x l member in
      let (w, c, there) = stepped u i.recovering g x l named whole (i.unstarted g x) in
      let (b, c2, acked) = installs_on u g x l named few head w c there in
      let (later, reach, r, same, counted, still) = counted_on b c2.recovering g x l small (scl (b.nodes g x).contents.records) acked.acked (ack_reaches b c2.recovering g x l acked.installed_is) in
      let installed_before : (h y : ℕ) → IsInstalled plan v now line records u h y → IsInstalled plan v now line records b h y = λ h y k.
      of_parts b h y (changes_all u b g x c2 (λ h y node. IsInstalled plan v now line records u h y → HasInstall h node) (λ k. parts b g x acked.installed_is) (λ h y k. parts u h y k) h y k) in
      let moved : (h y : ℕ) → IsInstalled plan v now line records b h y → IsInstalled plan v now line records later h y = λ h y k.
      of_parts later h y (subst (λ (nodes : ℕ → ℕ → Node). HasInstall h (nodes h y)) (sym same) (parts b h y k)) in
      let whole_still : (h y : ℕ) → (u.nodes h y).whole ≡ true → (b.nodes h y).whole ≡ true = changes_all u b g x c2 (λ h y node. (u.nodes h y).whole ≡ true → node.whole ≡ true) (λ k. acked.installed_is.whole) (λ h y k. k) in (
        later,
        reach_then plan u b later c2.reach reach,
        record {
          recovering = r;
          unstarted = λ h y. subst (λ (nodes : ℕ → ℕ → Node). IsUnstarted plan v now line records (nodes h y)) (sym same)
              (changes_all u b g x c2 (λ h y node. IsUnstarted plan v now line records node) acked.unstarted i.unstarted h y);
        },
        record {
          ready = λ h y k. (
            moved h y (installed_before h y k.0),
            still h y (subst (λ (cs : ℕ → Client). reaching (counts_of (cs v).groups h) (last_of_group h records) y ≡ true) (sym c2.clients) k.1),
          );
          whole = λ h y k. subst (λ (nodes : ℕ → ℕ → Node). (nodes h y).whole ≡ true) (sym same) (whole_still h y k);
        },
        (λ n can h y. subst (λ (nodes : ℕ → ℕ → Node). (nodes h y).copied + n ≤ most_copies) (sym same)
            (changes_all u b g x c2 (λ h y node. node.copied + n ≤ most_copies) (subst (λ k. k + n ≤ most_copies) (sym c2.copied) (can g x)) can h y)),
        (moved g x acked.installed_is, counted),
      )
    where
      HasInstall : ℕ → Node → Type 0
      HasInstall h node = (node.whole ≡ true) × (lineage_epoch node ≡ v) × (node.place.epoch ≡ epoch h)

      parts : (z : World) (h y : ℕ) → IsInstalled plan v now line records z h y → HasInstall h (z.nodes h y)
      parts z h y k = (k.whole, k.lineage, k.epoch)

      of_parts : (z : World) (h y : ℕ) → HasInstall h (z.nodes h y) → IsInstalled plan v now line records z h y
      of_parts z h y k = record { whole = k.0; lineage = k.1; epoch = k.2 }
