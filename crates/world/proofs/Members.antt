-- Each member of each group is made ready, one after the other.
use Rattle.std.proofs.Common.{◌≡◌, ℕ, zero, suc, ◌+◌, ◌*◌, ◌<◌, ◌≤◌, Bool, true, false, List, length, sym, ap, ◌∙◌, subst, inl, inr, arith}
use Rattle.std.proofs.lemmas.Bool.{cases_Bool, cases_lt, true≢false}
use Rattle.volume_model.specs.Common.{Members, sat, Redo, of_group, Lineage, Plan, most_copies, most_records, World}
use Rattle.world.proofs.Readable.{Reaches, reach_none, reach_then}
use Rattle.world.proofs.Asked.{HasWholeRoots}
use Rattle.world.proofs.Installing.{CanCopy, IsInstalling, IsReady, KeepsReady, at, is_member}

module _ (plan : Plan) (v : ℕ) (now : List ℕ) (line : Lineage) (records : List Redo) where
  abbrev pub Installing : World → Type 0
  Installing u = IsInstalling plan v now line records u

  abbrev pub Ready : World → ℕ → ℕ → Type 0
  Ready u g x = IsReady plan v now line records u g x

  abbrev pub Keeps : World → World → Type 0
  Keeps u later = KeepsReady plan v now line records u later

  abbrev pub member : ℕ → ℕ → Bool
  member g x = is_member plan v now line records g x

  keeps_none : (u : World) → Keeps u u
  keeps_none u = record { ready = λ g x h. h; whole = λ g x h. h }

  keeps_then : (a b c : World) → Keeps a b → Keeps b c → Keeps a c
  keeps_then a b c h k = record { ready = λ g x r. k.ready g x (h.ready g x r); whole = λ g x w. k.whole g x (h.whole g x w) }

  -- a whole member is made ready
  abbrev pub InstallsOne : Type 0
  InstallsOne = (u : World) → Installing u → (g x : ℕ) → g < length now → member g x ≡ true → x < 64
      → (u.nodes g x).whole ≡ true → length (of_group g records) ≤ most_records
      → (later : World) × Reaches plan u later × Installing later × Keeps u later × ((n : ℕ) → CanCopy u n → CanCopy later n) × Ready later g x

  -- a member that isn't whole becomes whole by the copies of a read set of ready ones
  abbrev pub HydratesOne : Type 0
  HydratesOne = (u : World) → Installing u → HasWholeRoots plan u → (g x : ℕ) → g < length now → member g x ≡ true → x < 64
      → (u.nodes g x).whole ≡ false → length (of_group g records) ≤ most_records
      → (S : Members) → ((y : ℕ) → S y ≡ true → (y < 64) × (member g y ≡ true) × Ready u g y)
      → sat (plan.configuration g (at plan v now line records g)).read S ≡ true
      → (n : ℕ) → CanCopy u (suc n)
      → (later : World) × Reaches plan u later × Installing later × Keeps u later × CanCopy later n × ((later.nodes g x).whole ≡ true)

  module _ (installs : InstallsOne) (hydrates : HydratesOne) (fits : (g : ℕ) → g < length now → length (of_group g records) ≤ most_records)
      (b : World) (readers : ℕ → Members) (readers_are : (g y : ℕ) → readers g y ≡ true → (y < 64) × (member g y ≡ true) × ((b.nodes g y).whole ≡ true))
      (reads : (g : ℕ) → g < length now → sat (plan.configuration g (at plan v now line records g)).read (readers g) ≡ true) where
    -- ---- the readers of each group

    -- the readers of a group below a number are ready
    abbrev ReadersReady : World → ℕ → ℕ → Type 0
    ReadersReady u g most = (y : ℕ) → y < most → readers g y ≡ true → Ready u g y

    group_readers : (g : ℕ) → g < length now → (most : ℕ) → most ≤ 64 → (u : World) → Installing u → Keeps b u
        → (later : World) × Reaches plan u later × Installing later × Keeps u later × ((n : ℕ) → CanCopy u n → CanCopy later n) × ReadersReady later g most
    group_readers g l zero few u i k = (u, reach_none plan u, i, keeps_none u, (λ n h. h), (λ y none h. absurd (omega arith)))
    group_readers g l (suc most) few u i k =
        let (a, ua, ia, ka, ca, ra) = group_readers g l most (omega arith) u i k in
        elim (cases_Bool (readers g most)) [
          | inl reader ↦ (
              let (small, own, whole) = readers_are g most reader in
              let (c, ac, ic, kc, cx, rc) = installs a ia g most l own small (ka.whole g most (k.whole g most whole)) (fits g l) in (
                c,
                reach_then plan u a c ua ac,
                ic,
                keeps_then u a c ka kc,
                (λ n h. cx n (ca n h)),
                (λ y below h. elim (cases_lt y most) [
                  | inl lower ↦ kc.ready g y (ra y lower h)
                  | inr last ↦ (let e : y ≡ most = omega arith in subst (λ z. Ready c g z) (sym e) rc)
                ]),
              ))
          | inr other ↦ (
            a,
            ua,
            ia,
            ka,
            ca,
            (λ y below h. elim (cases_lt y most) [
              | inl lower ↦ ra y lower h
              | inr last ↦ (let e : y ≡ most = omega arith in absurd (true≢false (sym h ∙ ap (readers g) e ∙ other)))
            ]),
          )
        ]

    all_readers : (most : ℕ) → most ≤ length now → (u : World) → Installing u → Keeps b u
        → (later : World) × Reaches plan u later × Installing later × Keeps u later × ((n : ℕ) → CanCopy u n → CanCopy later n) × ((g : ℕ) → g < most → ReadersReady later g 64)
    all_readers zero few u i k = (u, reach_none plan u, i, keeps_none u, (λ n h. h), (λ g none. absurd (omega arith)))
    all_readers (suc most) few u i k =
        let (a, ua, ia, ka, ca, ra) = all_readers most (omega arith) u i k in
        let (c, ac, ic, kc, cx, rc) = group_readers most (omega arith) 64 (omega arith) a ia (keeps_then b u a k ka) in (
          c,
          reach_then plan u a c ua ac,
          ic,
          keeps_then u a c ka kc,
          (λ n h. cx n (ca n h)),
          (λ g below. elim (cases_lt g most) [
            | inl lower ↦ (λ y s h. kc.ready g y (ra g lower y s h))
            | inr last ↦ (let e : g ≡ most = omega arith in subst (λ z. ReadersReady c z 64) (sym e) rc)
          ]),
        )

    -- ---- all members

    -- the members of a group below a number are ready
    abbrev MembersReady : World → ℕ → ℕ → Type 0
    MembersReady u g most = (x : ℕ) → x < most → member g x ≡ true → Ready u g x

    -- one member, whole or not, if the readers of its group are ready
    one_member : (g : ℕ) → g < length now → (x : ℕ) → x < 64 → member g x ≡ true → (u : World) → Installing u → HasWholeRoots plan u → ReadersReady u g 64 → (n : ℕ) → CanCopy u (suc n)
        → (later : World) × Reaches plan u later × Installing later × Keeps u later × CanCopy later n × Ready later g x
    one_member g l x small own u i roots ready n left =
        elim (cases_Bool (u.nodes g x).whole) [
          | inl whole ↦ (
              let (c, uc, ic, kc, cx, rc) = installs u i g x l own small whole (fits g l) in
              (c, uc, ic, kc, (λ h y. (let k : (c.nodes h y).copied + suc n ≤ most_copies = cx (suc n) left h y in omega arith)), rc))
          | inr fresh ↦ (
              let (a, ua, ia, ka, ca, whole) = hydrates u i roots g x l own small fresh (fits g l) (readers g)
              (λ y h. (let (low, mine, w) = readers_are g y h in (low, mine, ready y low h))) (reads g l) n left in
              let (c, ac, ic, kc, cx, rc) = installs a ia g x l own small whole (fits g l) in
              (c, reach_then plan u a c ua ac, ic, keeps_then u a c ka kc, cx n ca, rc))
        ]

    group_members : (g : ℕ) → g < length now → (most : ℕ) → most ≤ 64 → (u : World) → Installing u → HasWholeRoots plan u → ReadersReady u g 64 → (n : ℕ) → CanCopy u (most + n)
        → (later : World) × Reaches plan u later × Installing later × Keeps u later × CanCopy later n × MembersReady later g most
    group_members g l zero few u i roots ready n left = (u, reach_none plan u, i, keeps_none u, (λ h y. (let k : (u.nodes h y).copied + (0 + n) ≤ most_copies = left h y in omega arith)), (λ x none h. absurd (omega arith)))
    group_members g l (suc most) few u i roots ready n left =
        let (a, ua, ia, ka, ca, ra) = group_members g l most (omega arith) u i roots ready (suc n)
        (λ h y. (let k : (u.nodes h y).copied + (suc most + n) ≤ most_copies = left h y in omega arith)) in
        elim (cases_Bool (member g most)) [
          | inl own ↦ (
              let (c, ac, ic, kc, cx, rc) = one_member g l most (omega arith) own a ia (λ h y r. ka.whole h y (roots h y r)) (λ y low h. ka.ready g y (ready y low h)) n ca in (
                c,
                reach_then plan u a c ua ac,
                ic,
                keeps_then u a c ka kc,
                cx,
                (λ x below h. elim (cases_lt x most) [
                  | inl lower ↦ kc.ready g x (ra x lower h)
                  | inr last ↦ (let e : x ≡ most = omega arith in subst (λ z. Ready c g z) (sym e) rc)
                ]),
              ))
          | inr other ↦ (
            a,
            ua,
            ia,
            ka,
            (λ h y. (let k : (a.nodes h y).copied + suc n ≤ most_copies = ca h y in omega arith)),
            (λ x below h. elim (cases_lt x most) [
              | inl lower ↦ ra x lower h
              | inr last ↦ (let e : x ≡ most = omega arith in absurd (true≢false (sym h ∙ ap (member g) e ∙ other)))
            ]),
          )
        ]

    all_members : (most : ℕ) → most ≤ length now → (u : World) → Installing u → HasWholeRoots plan u → ((g : ℕ) → g < length now → ReadersReady u g 64) → (n : ℕ) → CanCopy u (64 * most + n)
        → (later : World) × Reaches plan u later × Installing later × Keeps u later × CanCopy later n × ((g : ℕ) → g < most → MembersReady later g 64)
    all_members zero few u i roots ready n left = (u, reach_none plan u, i, keeps_none u, (λ h y. (let k : (u.nodes h y).copied + (64 * 0 + n) ≤ most_copies = left h y in omega arith)), (λ g none. absurd (omega arith)))
    all_members (suc most) few u i roots ready n left =
        let (a, ua, ia, ka, ca, ra) = all_members most (omega arith) u i roots ready (64 + n)
        (λ h y. (let k : (u.nodes h y).copied + (64 * suc most + n) ≤ most_copies = left h y in omega arith)) in
        let (c, ac, ic, kc, cx, rc) = group_members most (omega arith) 64 (omega arith) a ia (λ h y r. ka.whole h y (roots h y r)) (λ y low h. ka.ready most y (ready most (omega arith) y low h)) n ca in (
          c,
          reach_then plan u a c ua ac,
          ic,
          keeps_then u a c ka kc,
          cx,
          (λ g below. elim (cases_lt g most) [
            | inl lower ↦ (λ x s h. kc.ready g x (ra g lower x s h))
            | inr last ↦ (let e : g ≡ most = omega arith in subst (λ z. MembersReady c z 64) (sym e) rc)
          ]),
        )

    -- From a world that keeps what b had, each member of each group is made ready.
    pub everyone_ready : Installing b → HasWholeRoots plan b → CanCopy b (64 * length now)
        → (later : World) × Reaches plan b later × Installing later × ((g x : ℕ) → g < length now → member g x ≡ true → x < 64 → Ready later g x)
    everyone_ready i roots left =
        let (a, ba, ia, ka, ca, ra) = all_readers (length now) (omega arith) b i (keeps_none b) in
        let (c, ac, ic, kc, cx, rc) = all_members (length now) (omega arith) a ia (λ h y r. ka.whole h y (roots h y r)) (λ g l. ra g l) 0
        (λ h y. (let k : (a.nodes h y).copied + 64 * length now ≤ most_copies = ca (64 * length now) left h y in omega arith)) in
        (c, reach_then plan b a c ba ac, ic, (λ g x l own small. rc g l x small own))
