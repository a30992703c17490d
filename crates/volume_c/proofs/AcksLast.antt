-- Of the acknowledgements of one segment under one label the last suffices, if none before it says more.
use Rattle.std.proofs.Common.{◌≡◌, ℕ, zero, suc, ◌≤◌, max, Bool, true, false, not, ◌&&◌, ◌||◌, nat_le, eqb, ◌⊎◌, List, [], ◌∷◌, if◌then◌else◌, Ok, refl, sym, ap, ◌∙◌, subst, inl, inr, arith, le_refl, slice_set}
use Rattle.std.proofs.lemmas.Bool.{cases_Bool, eq-eqb, eqb-true, true≢false}
use Rattle.volume_model.specs.Common.{IsIn, Formula, Children, Members, at_least, no_child, child, sat, weight_held, Plan, Label, Ack, refuse_if, ClientGroup, Count, group_of, has_cut, is_born, is_open, place_configuration, stays, best, counted_by, raised, raised_from, raised_group, reaching, with_count, ack_taken, is_for, taken}
use Rattle.volume_model.specs.Formula.{member}
use Rattle.volume_model.specs.declared.fault.Fault.TheVariants.{NoActor, NotAddressed}
use Rattle.volume_model.specs.Client.{Client}
use Rattle.volume_model.proofs.FormulaLaws.{sat_more}
use Rattle.volume_model.proofs.Filled.{IsFilled}
use Rattle.volume_model.proofs.Points.{best-greatest, reaching-some, reaching-from}
use Rattle.volume_c.specs.Replay.{client_after, client_or}

-- ---- counts

-- the greatest of a sender is kept, so a lower one before it leaves nothing
with_count-twice : (s lower upper : ℕ) (counts : List Count) → lower ≤ upper → with_count s upper (with_count s lower counts) ≡ with_count s upper counts
with_count-twice s lower upper [] le =
    let same : eqb s s ≡ true = eq-eqb s s refl in
    let most : max lower upper ≡ upper = omega (arith, le) in
    rw same (ap (λ n. record { sender = s; reached = n } ∷ []) most)
with_count-twice s lower upper (c ∷ rest) le =
    elim (cases_Bool (eqb c.sender s)) [
      | inl e ↦ (
          let same : eqb s s ≡ true = eq-eqb s s refl in
          let most : max (max c.reached lower) upper ≡ max c.reached upper = omega (arith, le) in
          rw (e, same) (ap (λ n. record { sender = s; reached = n } ∷ rest) most))
      | inr e ↦ rw (e, e) (ap (λ t. c ∷ t) (with_count-twice s lower upper rest le))
    ]

-- a count that is kept, or one of the same sender that says no less
record IsKept (c : Count) (counts : List Count) : Type 0 where
  count : Count
  there : IsIn count counts
  sender : count.sender ≡ c.sender
  no_less : c.reached ≤ count.reached

kept_in : (s u : ℕ) (counts : List Count) (c : Count) → IsIn c counts → IsKept c (with_count s u counts)
kept_in s u [] c i = absurd i
kept_in s u (d ∷ rest) c i =
    elim (cases_Bool (eqb d.sender s)) [
      | inl e ↦ rw e (elim i [
        | inl p ↦ (
            let q : c.reached ≡ d.reached = ap (λ z. z.reached) p in
            record { count = record { sender = s; reached = max d.reached u }; there = inl refl; sender = sym (eqb-true d.sender s e) ∙ ap (λ z. z.sender) (sym p); no_less = omega (arith, q) })
        | inr j ↦ record { count = c; there = inr j; sender = refl; no_less = le_refl c.reached }
      ])
      | inr e ↦ rw e (elim i [
        | inl p ↦ record { count = c; there = inl p; sender = refl; no_less = le_refl c.reached }
        | inr j ↦ (
            let k : IsKept c (with_count s u rest) = kept_in s u rest c j in
            record { count = k.count; there = inr k.there; sender = k.sender; no_less = k.no_less })
      ])
    ]

-- so no fewer reach a number
reach-more : (s u : ℕ) (counts : List Count) (n x : ℕ) → reaching counts n x ≡ true → reaching (with_count s u counts) n x ≡ true
reach-more s u counts n x h =
    let (c, i, e, l) = reaching-some counts n x h in
    let k : IsKept c (with_count s u counts) = kept_in s u counts c i in
    reaching-from (with_count s u counts) n x k.count k.there (k.sender ∙ e) (omega (arith, l, k.no_less))

-- ---- the greatest number that is written

-- an expression holds of a set as it does of the empty one, or the set has a member
mutual
  one-or-none : (f : Formula) (s : Members) → ((x : ℕ) × (s x ≡ true)) ⊎ (sat f s ≡ sat f (λ x. false))
  one-or-none (member x) s = elim (cases_Bool (s x)) [ inl e ↦ inl (x, e) | inr e ↦ inr e ]
  one-or-none (at_least k of) s = elim (held-or-none of s) [ inl one ↦ inl one | inr e ↦ inr (ap (nat_le k) e) ]

  held-or-none : (of : Children) (s : Members) → ((x : ℕ) × (s x ≡ true)) ⊎ (weight_held of s ≡ weight_held of (λ x. false))
  held-or-none no_child s = inr refl
  held-or-none (child w f fs) s = elim (one-or-none f s) [
    | inl one ↦ inl one
    | inr e ↦ elim (held-or-none fs s) [ inl one ↦ inl one | inr same ↦ inr (rw (e, same) refl) ]
  ]

-- what holds of the empty set holds of each set
any-of : (w : Formula) → sat w (λ x. false) ≡ true → (s : Members) → sat w s ≡ true
any-of w e s = sat_more w (λ x. false) s (λ x no. absurd cc) e

best-above : (w : Formula) (counts list : List Count) (c : Count) → IsIn c list → sat w (reaching counts c.reached) ≡ true → c.reached ≤ best w counts list
best-above w counts [] c i h = absurd i
best-above w counts (d ∷ list) c (inl p) h =
    let h' : sat w (reaching counts d.reached) ≡ true = subst (λ z. sat w (reaching counts z.reached) ≡ true) p h in
    let q : c.reached ≡ d.reached = ap (λ z. z.reached) p in
    rw h' (omega (arith, q))
best-above w counts (d ∷ list) c (inr i) h =
    more (if sat w (reaching counts d.reached) then d.reached else 0) (best w counts list) (best-above w counts list c i h)
  where
    more : (a b : ℕ) → c.reached ≤ b → c.reached ≤ max a b
    more a b l = omega (arith, l)

-- where no count says less
module _ (w : Formula) (s u : ℕ) (xs : List Count) where
  abbrev ys : List Count
  ys = with_count s u xs

  best-any : sat w (λ x. false) ≡ true → (list : List Count) → ((c : Count) → IsIn c list → IsIn c xs) → best w xs list ≤ best w ys ys
  best-any e [] within = omega arith
  best-any e (c ∷ list) within =
      let ih : best w xs list ≤ best w ys ys = best-any e list (λ d i. within d (inr i)) in
      let k : IsKept c ys = kept_in s u xs c (within c (inl refl)) in
      let up : k.count.reached ≤ best w ys ys = best-above w ys ys k.count k.there (any-of w e (reaching ys k.count.reached)) in
      rw (any-of w e (reaching xs c.reached)) (omega (arith, ih, up, k.no_less))

  best-more : best w xs xs ≤ best w ys ys
  best-more = elim (cases_Bool (sat w (λ x. false))) [
    | inl e ↦ best-any e xs (λ c i. i)
    | inr e ↦ (
        let filled : IsFilled w = λ t h. elim (one-or-none w t) [ inl one ↦ one | inr same ↦ absurd (true≢false (sym h ∙ same ∙ e)) ] in
        elim (best-greatest w filled xs).is_one [
          | inl none ↦ omega (arith, none)
          | inr is ↦ (best-greatest w filled ys).at_least_each (best w xs xs) (sat_more w (reaching xs (best w xs xs)) (reaching ys (best w xs xs)) (λ x. reach-more s u xs (best w xs xs) x) is)
        ])
  ]

-- ---- a group

abbrev acked : ℕ → ℕ → ClientGroup → ClientGroup
acked s r g = record g { counts = with_count s r g.counts }

or-twice : (a b c : Bool) → (b ≡ true → c ≡ true) → ((a || b) || c) ≡ (a || c)
or-twice true b c h = refl
or-twice false true c h = sym (h refl)
or-twice false false c h = refl

raised-twice : (plan : Plan) (n : ℕ) (g : ClientGroup) → raised_group plan n (raised_group plan n g) ≡ raised_group plan n g
raised-twice plan n g =
    let w = (place_configuration plan n g.place).write in
    let b = best w g.counts g.counts in
    let point : max (max g.group_point b) b ≡ max g.group_point b = omega arith in
    let joins = or-twice g.joined (sat w (counted_by g.counts)) (sat w (counted_by g.counts)) (λ h. h) in
    λ i. record g { group_point = point i; joined = joins i }

-- a group whose counts are these
abbrev raised_to : Plan → ℕ → ClientGroup → List Count → ClientGroup
raised_to plan n g counts = raised_group plan n (record g { counts = counts })

group-twice : (plan : Plan) (n s lower upper : ℕ) (g : ClientGroup) → lower ≤ upper
    → raised_group plan n (acked s upper (raised_group plan n (acked s lower g))) ≡ raised_group plan n (acked s upper g)
group-twice plan n s lower upper g le =
    let w = (place_configuration plan n g.place).write in
    let xs = with_count s lower g.counts in
    let ys = with_count s upper xs in
    let more : (k x : ℕ) → reaching xs k x ≡ true → reaching ys k x ≡ true = reach-more s upper xs in
    let up : best w xs xs ≤ best w ys ys = best-more w s upper xs in
    let point : max (max g.group_point (best w xs xs)) (best w ys ys) ≡ max g.group_point (best w ys ys) = omega (arith, up) in
    let joins = or-twice g.joined (sat w (counted_by xs)) (sat w (counted_by ys)) (sat_more w (counted_by xs) (counted_by ys) (λ x. more 0 x)) in
    let first : raised_group plan n (acked s upper (raised_group plan n (acked s lower g))) ≡ raised_to plan n g ys = λ i. record g { counts = ys; group_point = point i; joined = joins i } in
    first ∙ ap (raised_to plan n g) (with_count-twice s lower upper g.counts le)

-- ---- all groups

-- an acknowledgement of the group of a number
abbrev once : ℕ → ℕ → ℕ → List ClientGroup → List ClientGroup
once s r i groups = slice_set groups i (acked s r (group_of groups i))

module _ (plan : Plan) where
  all-twice : (n : ℕ) (groups : List ClientGroup) → raised_from plan n (raised_from plan n groups) ≡ raised_from plan n groups
  all-twice n [] = refl
  all-twice n (g ∷ groups) = λ j. raised-twice plan n g j ∷ all-twice (suc n) groups j

  module _ (s lower upper : ℕ) (le : lower ≤ upper) where
    open-twice : (n i : ℕ) (groups : List ClientGroup) → raised_from plan n (once s upper i (raised_from plan n (once s lower i groups))) ≡ raised_from plan n (once s upper i groups)
    open-twice n i [] = refl
    open-twice n zero (g ∷ groups) = λ j. group-twice plan n s lower upper g le j ∷ all-twice (suc n) groups j
    open-twice n (suc i) (g ∷ groups) = λ j. raised-twice plan n g j ∷ open-twice (suc n) i groups j

    closed-twice : (i : ℕ) (groups : List ClientGroup) → once s upper i (once s lower i groups) ≡ once s upper i groups
    closed-twice i [] = refl
    closed-twice zero (g ∷ groups) = ap (λ (counts : List Count). record g { counts = counts } ∷ groups) (with_count-twice s lower upper g.counts le)
    closed-twice (suc i) (g ∷ groups) = ap (λ t. g ∷ t) (closed-twice i groups)

  place-open : (s r n i : ℕ) (groups : List ClientGroup) → (group_of (raised_from plan n (once s r i groups)) i).place ≡ (group_of groups i).place
  place-open s r n i [] = refl
  place-open s r n zero (g ∷ groups) = refl
  place-open s r n (suc i) (g ∷ groups) = place-open s r (suc n) i groups

  place-closed : (s r i : ℕ) (groups : List ClientGroup) → (group_of (once s r i groups) i).place ≡ (group_of groups i).place
  place-closed s r i [] = refl
  place-closed s r zero (g ∷ groups) = refl
  place-closed s r (suc i) (g ∷ groups) = place-closed s r i groups

  -- the groups of a client that is open or not
  abbrev now : Bool → List ClientGroup → List ClientGroup
  now open_now groups = if open_now then raised plan groups else groups

  now-twice : (o : Bool) (s lower upper i : ℕ) (groups : List ClientGroup) → lower ≤ upper → now o (once s upper i (now o (once s lower i groups))) ≡ now o (once s upper i groups)
  now-twice true s lower upper i groups le = open-twice s lower upper le 0 i groups
  now-twice false s lower upper i groups le = closed-twice s lower upper le i groups

  now-place : (o : Bool) (s r i : ℕ) (groups : List ClientGroup) → (group_of (now o (once s r i groups)) i).place ≡ (group_of groups i).place
  now-place true s r i groups = place-open s r 0 i groups
  now-place false s r i groups = place-closed s r i groups

-- ---- a client

module _ (plan : Plan) (group : ℕ) (label : Label) (s lower upper : ℕ) (le : lower ≤ upper) where
  abbrev counts_it : Client → Bool
  counts_it client = has_cut client.stage && nat_le label.member (group_of client.groups group).place.epoch

  abbrev counted : ℕ → Client → Client
  counted r client = record client { groups = now plan (is_open client.stage) (once s r group client.groups) }

  ack-is : (r : ℕ) (client : Client) (b : Bool) → counts_it client ≡ b → ack_taken plan client group label s r ≡ (if b then counted r client else client)
  ack-is r client b e = ap (λ (c : Bool). if c then counted r client else client) e

  still-counts : (r : ℕ) (client : Client) → counts_it (counted r client) ≡ counts_it client
  still-counts r client = ap (λ p. has_cut client.stage && nat_le label.member p.epoch) (now-place plan (is_open client.stage) s r group client.groups)

  ack-twice : (client : Client) → ack_taken plan (ack_taken plan client group label s lower) group label s upper ≡ ack_taken plan client group label s upper
  ack-twice client =
      elim (cases_Bool (counts_it client)) [
        | inl e ↦ (
            let first = ack-is lower client true e in
            let second = ack-is upper (counted lower client) true (still-counts lower client ∙ e) in
            ap (λ (c : Client). ack_taken plan c group label s upper) first ∙ second
            ∙ ap (λ (groups : List ClientGroup). record client { groups = groups }) (now-twice plan (is_open client.stage) s lower upper group client.groups le)
            ∙ sym (ack-is upper client true e))
        | inr e ↦ ap (λ (c : Client). ack_taken plan c group label s upper) (ack-is lower client false e)
      ]

  ack-stage : (r : ℕ) (client : Client) → (ack_taken plan client group label s r).stage ≡ client.stage
  ack-stage r client = elim (cases_Bool (counts_it client)) [
    | inl e ↦ ap (λ (c : Client). c.stage) (ack-is r client true e)
    | inr e ↦ ap (λ (c : Client). c.stage) (ack-is r client false e)
  ]

  module _ (volume : ℕ) where
    abbrev takes_it : Client → Bool
    takes_it client = is_for volume plan.groups (Ack group label s 0) && is_born client.stage

    refused_or : (a b : Bool) (client x : Client) → client_or client (refuse_if (not a) NotAddressed (refuse_if (not b) NoActor (Ok (stays x)))) ≡ (if a && b then x else client)
    refused_or true true client x = refl
    refused_or true false client x = refl
    refused_or false b client x = refl

    taken-is : (r : ℕ) (client : Client) (b : Bool) → takes_it client ≡ b → client_or client (taken plan volume client (Ack group label s r)) ≡ (if b then ack_taken plan client group label s r else client)
    taken-is r client b e =
        refused_or (is_for volume plan.groups (Ack group label s 0)) (is_born client.stage) client (ack_taken plan client group label s r)
        ∙ ap (λ (c : Bool). if c then ack_taken plan client group label s r else client) e

    pub last_suffices : (client : Client) → client_after plan volume client (Ack group label s lower ∷ Ack group label s upper ∷ []) ≡ client_after plan volume client (Ack group label s upper ∷ [])
    last_suffices client =
        elim (cases_Bool (takes_it client)) [
          | inl e ↦ (
              let first = taken-is lower client true e in
              let own = ap (λ st. is_for volume plan.groups (Ack group label s 0) && is_born st) (ack-stage lower client) in
              ap (λ (c : Client). client_or c (taken plan volume c (Ack group label s upper))) first
              ∙ taken-is upper (ack_taken plan client group label s lower) true (own ∙ e)
              ∙ ack-twice client
              ∙ sym (taken-is upper client true e))
          | inr e ↦ ap (λ (c : Client). client_or c (taken plan volume c (Ack group label s upper))) (taken-is lower client false e)
        ]
