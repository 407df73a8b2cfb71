-- THE SEARCH FOR THE START (`found`): from a late deadline down, job after job in the order of their releases, with a running count of what they ask for.
use Rattle.std.specs.Prelude.{◌≡◌, refl, ◌⊎◌, ◌≢◌, List, T, replicate}
use Rattle.std.proofs.Common.{sym, ap, subst, ◌∙◌, inl, inr, le_refl, mul-le-mul_left}
use Prim.Native.Nat.{ℕ, zero, suc, ◌+◌, ◌-◌, ◌*◌, ◌/◌, ◌%◌, ◌≤◌, ◌<◌}
use Rattle.std.proofs.Math.Decide.{ℕ_discrete, dec_lt}
use native.Mathlib.Omega.{arith}
use Rattle.std.proofs.lemmas.List.{length-replicate}
use Rattle.values.specs.declared.Table.{Table}
use Rattle.model.specs.Limits.{task_limit}
use Rattle.model.specs.Notation.{sum}
use Rattle.model.specs.Tasks.{task, release, due, offset}
use Rattle.model.specs.Demand.{jobs_in, demand, asks_too_much, late_at}
use Rattle.counting.specs.Below.{below, lt_below, below_most, below_none, grows_lt}
use Rattle.counting.specs.Sum.{sum_le, sum_by, sum_zero}
use Rattle.wellformed.specs.Ranges.{Ranged}
use Rattle.wellformed.specs.Closed.{releases, dues, jobs_inside}
use Rattle.backlog.specs.TooMuch.{too_much_iff, late_at_iff}
use Rattle.slots.specs.Slot.{at}
use Rattle.leaps.specs.Queue.{Queue, inserted, alike, last_least, but_last, put_in}
use Rattle.leaps.specs.AtMost.{at_most}
use Rattle.leaps.specs.Entry.{places, span, entry}
use Rattle.leaps.proofs.Entries.{entry_task, entry_time, entry_same, entry_le}
use Rattle.leaps.proofs.Held.{but, but_here, but_other}
use Rattle.leaps.proofs.Land.{strict}

module _ (t : Table) (to : ℕ) where
  -- The jobs of task i that are due by `to`.
  abbrev pub due_by : ℕ → ℕ
  due_by i = below (due (task t i)) (suc to)

  -- Of the first n tasks, the last of the J jobs that are not yet counted, by its distance from `to`.
  abbrev pub Last : ℕ → (ℕ → ℕ) → ℕ → Type 0
  Last n J x = (i : ℕ) × (j : ℕ) × (i < n) × (J i ≡ suc j) × (x ≡ entry t (to - release (task t i) j) i)

  abbrev counted : (ℕ → ℕ) → ℕ
  counted J = sum t.count (λ i. (task t i).cost * (due_by i - J i))

-- What holds before each job: those after it are counted, they ask for no more slots than there are, and no later start asks too much.
pub record Searching (t : Table) (to : ℕ) (queue : List ℕ) (jobs asked : ℕ) : Type 0 where
  J : ℕ → ℕ
  start : ℕ
  most : (i : ℕ) → i < t.count → J i ≤ due_by t to i
  pub queued : Queue (Last t to t.count J) queue jobs
  asks : asked ≡ counted t to J
  upto : start ≤ to
  fits : asked ≤ to - start
  rest : (i j : ℕ) → i < t.count → J i ≡ suc j → release (task t i) j ≤ start
  taken : (i : ℕ) → i < t.count → J i < due_by t to i → start ≤ release (task t i) (J i)
  none : (later : ℕ) → later < to → ((i j : ℕ) → i < t.count → J i ≡ suc j → release (task t i) j < later) → T (asks_too_much t later to) → ⊥

-- The job before a counted one, if there is one, is queued in its place: it is a period further from `to`.
abbrev pub Requeued : ℕ → ℕ → ℕ → ℕ → List ℕ → ℕ → List ℕ → ℕ → Type 0
Requeued to key period first queue jobs queue' jobs' =
    (key / span + period + first ≤ to → (queue' ≡ inserted queue (jobs - 1) (key + period * span)) × (jobs' ≡ jobs))
    × (to < key / span + period + first → (queue' ≡ queue) × (jobs' ≡ jobs - 1))

module _ (t : Table) (r : Ranged t) (to : ℕ) where
  -- A job that is due by `to` is released before it.
  pub released_before : (i j : ℕ) → i < t.count → j < due_by t to i → release (task t i) j < to
  released_before i j l h = omega (arith, (lt_below (due (task t i)) (dues (task t i) (r.each i l)) (suc to) j).0 h, (r.each i l).deadline_pos)

  -- A start behind all that are not counted asks for no more than is counted; one that is not behind any counted asks for no less.
  asks_most : (J : ℕ → ℕ) (later : ℕ) → ((i j : ℕ) → i < t.count → J i ≡ suc j → release (task t i) j < later) → demand t later to ≤ counted t to J
  unfolding demand
  asks_most J later h = sum_le t.count _ _ each
    where
      passed : (i : ℕ) → i < t.count → (n : ℕ) → J i ≡ n → n ≤ below (release (task t i)) later
      passed i l zero e = omega arith
      passed i l (suc j) e = (lt_below (release (task t i)) (releases (task t i) (r.each i l)) later j).1 (h i j l e)

      each : (i : ℕ) → i < t.count → (task t i).cost * jobs_in (task t i) later to ≤ (task t i).cost * (due_by t to i - J i)
      each i l = mul-le-mul_left (task t i).cost (omega (arith, jobs_inside (task t i) (r.each i l) later to, passed i l (J i) refl))

  asks_least : (J : ℕ → ℕ) (from : ℕ) → ((i : ℕ) → i < t.count → J i < due_by t to i → from ≤ release (task t i) (J i)) → counted t to J ≤ demand t from to
  unfolding demand
  asks_least J from h = sum_le t.count _ _ each
    where
      fewer : (i : ℕ) → i < t.count → J i < due_by t to i → below (release (task t i)) from ≤ J i
      fewer i l m =
          below_most (release (task t i)) (releases (task t i) (r.each i l)) from (J i)
          (λ j x. grows_lt (release (task t i)) (releases (task t i) (r.each i l)) j (J i) (omega (arith, h i l m)))

      each : (i : ℕ) → i < t.count → (task t i).cost * (due_by t to i - J i) ≤ (task t i).cost * jobs_in (task t i) from to
      each i l = mul-le-mul_left (task t i).cost (elim (dec_lt (J i) (due_by t to i)) [
        | yes m ↦ omega (arith, jobs_inside (task t i) (r.each i l) from to, fewer i l m)
        | no m ↦ omega arith
      ])

  -- At first no job is counted.
  pub searching_start : {queue : List ℕ} {jobs : ℕ} → Queue (Last t to t.count (due_by t to)) queue jobs → Searching t to queue jobs 0
  searching_start {queue} {jobs} q = record {
    J = due_by t to;
    start = to;
    most = λ i l. le_refl _;
    queued = q;
    asks = sym nothing;
    upto = le_refl to;
    fits = omega arith;
    rest = λ i j l e. omega (arith, released_before i j l (omega arith));
    taken = λ i l h. absurd (omega arith);
    none = λ later l h x. absurd (omega (arith, ((too_much_iff t later to).0 x).1, asks_most (due_by t to) later h, nothing));
  }
    where
      nothing : counted t to (due_by t to) ≡ 0
      nothing = sum_zero t.count _ (λ i l. let e : due_by t to i - due_by t to i ≡ 0 = omega arith in rw e (omega arith))

  module _ {queue : List ℕ} {jobs asked : ℕ} (v : Searching t to queue jobs asked) where
    -- A late deadline has a start, so that some job is not counted.
    pub some_left : T (late_at t to) → 0 < jobs
    some_left late = elim (dec_lt 0 jobs) [ yes p ↦ p | no p ↦ absurd (never p ((late_at_iff t to).0 late)) ]
      where
        never : (0 < jobs → ⊥) → (from : ℕ) × T (asks_too_much t from to) → ⊥
        never p (from, x) =
            v.none from ((too_much_iff t from to).0 x).0 (λ i j l e. let (a, m, f) = v.queued.found _ (i, j, l, e, refl) in absurd (omega arith)) x

    module _ (busy : 0 < jobs) where
      abbrev key : ℕ
      key = at queue (jobs - 1)

      abbrev i : ℕ
      i = key % places

      first : (j : ℕ) × (i < t.count) × (v.J i ≡ suc j) × (key ≡ entry t (to - release (task t i) j) i)
      first =
          let (k, j, l, e, f) = v.queued.sound (jobs - 1) (omega arith) in
          let q : key % places ≡ k = ap (λ (x : ℕ). x % places) f ∙ entry_task t r _ k l in
          rw q (j, l, e, f)

      pub task_lt : i < t.count
      task_lt = first.1

      abbrev j : ℕ
      j = first.0

      -- Its release.
      abbrev here : ℕ
      here = release (task t i) j

      here_lt : here < to
      here_lt = released_before i j task_lt (omega (arith, first.2, v.most i task_lt))

      length_is : key / span ≡ to - here
      length_is = ap (λ (x : ℕ). x / span) first.3 ∙ entry_time t r _ i task_lt

      pub length_in : (length : ℕ) → length ≡ key / span → (0 < length) × (length ≤ to)
      length_in length e = (omega (arith, e, length_is, here_lt), omega (arith, e, length_is))

      -- No job that is not counted is released after it.
      latest : (k m : ℕ) → k < t.count → v.J k ≡ suc m → release (task t k) m ≤ here
      latest k m l e =
          omega (
            arith,
            here_lt,
            released_before k m l (omega (arith, e, v.most k l)),
            entry_le t r _ _ i k task_lt l (rw first.3 at (last_least v.queued busy (entry t (to - release (task t k) m) k) (k, m, l, e, refl))),
          )

      counted_more : counted t to (but v.J i j) ≡ counted t to v.J + (task t i).cost
      counted_more =
          sum_by t.count _ _ i (task t i).cost task_lt one
          (λ k l q. ap (λ (x : ℕ). (task t k).cost * (due_by t to k - x)) (but_other v.J i j k (λ e. q (sym e))))
        where
          one : (task t i).cost * (due_by t to i - but v.J i j i) ≡ (task t i).cost * (due_by t to i - v.J i) + (task t i).cost
          one =
              let e : due_by t to i - but v.J i j i ≡ due_by t to i - v.J i + 1 = omega (arith, but_here v.J i j, first.2, v.most i task_lt) in
              ap (λ (x : ℕ). (task t i).cost * x) e ∙ omega arith

      counted_here : (k : ℕ) → k < t.count → but v.J i j k < due_by t to k → here ≤ release (task t k) (but v.J i j k)
      counted_here k l h = elim (ℕ_discrete i k) [
        | yes q ↦ rw (← q, but_here v.J i j) (le_refl _)
        | no q ↦ rw (but_other v.J i j k q) (omega (arith, v.rest i j task_lt first.2, v.taken k l (omega (arith, but_other v.J i j k q))))
      ]

      -- It asks too much: it is the largest such start.
      pub found : (length : ℕ) → length ≡ key / span → length < asked + (task t i).cost
          → (length < demand t (to - length) to) × ((later : ℕ) → to - length < later → later < to → T (asks_too_much t later to) → ⊥)
      found length e h =
          let f : to - length ≡ here = omega (arith, e, length_is, here_lt) in (
            rw f (omega (arith, e, length_is, v.asks, counted_more, asks_least (but v.J i j) here counted_here)),
            λ later a b. v.none later b (λ k m l x. omega (arith, latest k m l x)),
          )

      -- It does not, and the search goes on with what is then queued.
      onward : {queue' : List ℕ} {jobs' : ℕ} → asked + (task t i).cost ≤ to - here → Queue (Last t to t.count (but v.J i j)) queue' jobs'
          → Searching t to queue' jobs' (asked + (task t i).cost)
      onward h q = record {
        J = but v.J i j;
        start = here;
        most =
            λ k l. elim (ℕ_discrete i k) [
              | yes e ↦ rw (← e) (omega (arith, but_here v.J i j, first.2, v.most i task_lt))
              | no e ↦ omega (arith, but_other v.J i j k e, v.most k l)
            ];
        queued = q;
        asks = omega (arith, v.asks, counted_more);
        upto = omega (arith, here_lt);
        fits = h;
        rest = λ k m l e. elim (ℕ_discrete i k) [
          | yes q ↦
              (let f : j ≡ suc m = sym (but_here v.J i j) ∙ ap (but v.J i j) q
              ∙ e in subst (λ (x : ℕ). release (task t x) m ≤ here) q (omega (arith, releases (task t i) (r.each i task_lt) m, ap (release (task t i)) f)))
          | no q ↦ latest k m l (sym (but_other v.J i j k q) ∙ e)
        ];
        taken = counted_here;
        none = λ later l x y. elim (dec_lt here later) [
          | yes p ↦ v.none later l (λ k m b e. omega (arith, latest k m b e)) y
          | no p ↦ absurd (omega (arith, ((too_much_iff t later to).0 y).1, asks_most (but v.J i j) later x, v.asks, counted_more, h))
        ];
      }

      -- The others in the queue.
      other : (k m x : ℕ) → k < t.count → v.J k ≡ suc m → x ≡ entry t (to - release (task t k) m) k → key < x → i ≡ k → ⊥
      other k m x l e f y q =
          let g : m ≡ j = omega (arith, e, first.2, ap v.J q) in
          omega (arith, y, f, first.3, ap (λ (z : ℕ). entry t (to - release (task t z) j) z) q, ap (λ (z : ℕ). entry t (to - release (task t k) z) k) g)

      larger : (k m x : ℕ) → k < t.count → v.J k ≡ suc m → x ≡ entry t (to - release (task t k) m) k → (i ≡ k → ⊥) → key < x
      larger k m x l e f q =
          strict key x (λ y. q (entry_same t r _ _ i k task_lt l (sym first.3 ∙ y ∙ f)).0) (last_least v.queued busy x (k, m, l, e, f))

      dropped : j ≡ 0 → Queue (Last t to t.count (but v.J i j)) queue (jobs - 1)
      dropped z = alike (but_last v.queued busy)
          (λ x ((k, m, l, e, f), y). (k, m, l, but_other v.J i j k (other k m x l e f y) ∙ e, f))
          (λ x (k, m, l, e, f). let q : i ≡ k → ⊥ = λ q. absurd (omega (arith, z, but_here v.J i j, ap (but v.J i j) q, e)) in let g = sym
          (but_other v.J i j k q) ∙ e in ((k, m, l, g, f), larger k m x l g f q))

      moved : (n : ℕ) → j ≡ suc n → jobs ≤ task_limit → Queue (Last t to t.count (but v.J i j))
          (inserted queue (jobs - 1) (entry t (to - release (task t i) n) i)) jobs
      moved n z few = alike (put_in (but_last v.queued busy) (omega arith) (entry t (to - release (task t i) n) i) fresh jobs (omega arith)) forth back
        where
          fresh : Last t to t.count v.J (entry t (to - release (task t i) n) i) × (key < entry t (to - release (task t i) n) i) → ⊥
          fresh ((k, m, l, e, f), y) = other k m _ l e f y (entry_same t r _ _ i k task_lt l f).0

          forth : (x : ℕ) → (x ≡ entry t (to - release (task t i) n) i) ⊎ (Last t to t.count v.J x × (key < x)) → Last t to t.count (but v.J i j) x
          forth x (inl e) = (i, n, task_lt, but_here v.J i j ∙ z, e)
          forth x (inr ((k, m, l, e, f), y)) = (k, m, l, but_other v.J i j k (other k m x l e f y) ∙ e, f)

          back : (x : ℕ) → Last t to t.count (but v.J i j) x → (x ≡ entry t (to - release (task t i) n) i) ⊎ (Last t to t.count v.J x × (key < x))
          back x (k, m, l, e, f) = elim (ℕ_discrete i k) [
            | yes q ↦
                (let g : m ≡ n = omega (arith, z, but_here v.J i j, ap (but v.J i j) q, e) in
                inl (f ∙ ap (λ (y : ℕ). entry t (to - release (task t y) m) y) (sym q) ∙ ap (λ (y : ℕ). entry t (to - release (task t i) y) i) g))
            | no q ↦ (let g = sym (but_other v.J i j k q) ∙ e in inr ((k, m, l, g, f), larger k m x l g f q))
          ]

      pub goes_on : {queue' : List ℕ} {jobs' : ℕ} → asked + (task t i).cost ≤ key / span → jobs ≤ task_limit
          → Requeued to key (task t i).period (offset (task t i)) queue jobs queue' jobs' → Searching t to queue' jobs' (asked + (task t i).cost)
      goes_on {queue'} {jobs'} h few (later, first_one) = by j refl
        where
          fits' : asked + (task t i).cost ≤ to - here
          fits' = omega (arith, length_is)

          by : (n : ℕ) → j ≡ n → Searching t to queue' jobs' (asked + (task t i).cost)
          by zero z =
              let (e, f) = first_one (omega (arith, length_is, here_lt, ap (release (task t i)) z, (r.each i task_lt).period_pos)) in
              rw (e, f) (onward fits' (dropped z))
          by (suc n) z =
              let (e, f) = later (omega (arith, length_is, here_lt, ap (release (task t i)) z)) in
              let g : key + (task t i).period * span ≡ entry t (to - release (task t i) n) i = omega
              (arith, first.3, here_lt, ap (release (task t i)) z) in
              rw (e, f, g) (onward fits' (moved n z few))

    -- What is counted is no more than `to`.
    pub asked_le : asked ≤ to
    asked_le = omega (arith, v.fits)

    -- There are no more entries than tasks.
    pub crowded : jobs ≤ t.count
    crowded = at_most t.count jobs (λ a. at queue a % places) (λ a l. (of a l).1) apart
      where
        of : (a : ℕ) → a < jobs → (m : ℕ) × (at queue a % places < t.count) × (v.J (at queue a % places) ≡ suc m)
            × (at queue a ≡ entry t (to - release (task t (at queue a % places)) m) (at queue a % places))
        of a l =
            let (k, m, b, e, f) = v.queued.sound a l in
            let q : at queue a % places ≡ k = ap (λ (x : ℕ). x % places) f ∙ entry_task t r _ k b in
            rw q (m, b, e, f)

        apart : (a b : ℕ) → a < b → b < jobs → at queue a % places ≡ at queue b % places → ⊥
        apart a b h l q =
            let (m, x, e, f) = of a (omega arith) in
            let (n, y, g, z) = of b l in
            let s : m ≡ n = omega (arith, e, g, ap v.J q) in
            omega (
              arith,
              v.queued.falls a b h l,
              f ∙ ap (λ (k : ℕ). entry t (to - release (task t k) m) k) q
                  ∙ ap (λ (k : ℕ). entry t (to - release (task t (at queue b % places)) k) (at queue b % places)) s ∙ sym z,
            )

-- The last jobs of the tasks below i.
pub lasts_none : (t : Table) (to : ℕ) → Queue (Last t to 0 (due_by t to)) (replicate task_limit 0) 0
lasts_none t to = record {
  size = length-replicate {A = ℕ} task_limit 0;
  falls = λ a b h l. absurd (omega arith);
  sound = λ a l. absurd (omega arith);
  found = λ x (k, j, l, e, f). absurd (omega arith);
}

module _ (t : Table) (r : Ranged t) (to : ℕ) where
  pub jobs_due : (i : ℕ) → i < t.count → jobs_in (task t i) 0 to ≡ due_by t to i
  jobs_due i l = omega (arith, jobs_inside (task t i) (r.each i l) 0 to, below_none (release (task t i)))

  module _ (i : ℕ) (l : i < t.count) {queue : List ℕ} {jobs : ℕ} (q : Queue (Last t to i (due_by t to)) queue jobs) where
    pub lasts_skip : due_by t to i ≤ 0 → Queue (Last t to (i + 1) (due_by t to)) queue jobs
    lasts_skip z = alike q
        (λ x (k, j, m, e, f). (k, j, omega arith, e, f))
        (λ x (k, j, m, e, f). (k, j, (let p : k ≢ i = λ y. absurd (omega (arith, e, ap (due_by t to) y)) in omega arith), e, f))

    pub lasts_more : (j : ℕ) → due_by t to i ≡ suc j → jobs < task_limit → Queue (Last t to (i + 1) (due_by t to))
        (inserted queue jobs (entry t (to - release (task t i) j) i)) (jobs + 1)
    lasts_more j e few = alike (put_in q few (entry t (to - release (task t i) j) i) fresh (jobs + 1) (omega arith)) forth back
      where
        fresh : Last t to i (due_by t to) (entry t (to - release (task t i) j) i) → ⊥
        fresh (k, m, b, f, g) = omega (arith, (entry_same t r _ _ i k l (omega arith) g).0)

        forth : (x : ℕ) → (x ≡ entry t (to - release (task t i) j) i) ⊎ Last t to i (due_by t to) x → Last t to (i + 1) (due_by t to) x
        forth x (inl f) = (i, j, omega arith, e, f)
        forth x (inr (k, m, b, f, g)) = (k, m, omega arith, f, g)

        back : (x : ℕ) → Last t to (i + 1) (due_by t to) x → (x ≡ entry t (to - release (task t i) j) i) ⊎ Last t to i (due_by t to) x
        back x (k, m, b, f, g) = elim (ℕ_discrete k i) [
          | yes p ↦
              (let s : m ≡ j = omega (arith, e, f, ap (due_by t to) p) in
              inl (g ∙ ap (λ (y : ℕ). entry t (to - release (task t y) m) y) p ∙ ap (λ (y : ℕ). entry t (to - release (task t i) y) i) s))
          | no p ↦ inr (k, m, omega arith, f, g)
        ]
