-- What stays true while new nodes are assigned.
use Rattle.std.proofs.Common.{◌≡◌, ◌≢◌, ◌⊎◌, inl, inr, ℕ, ◌+◌, ◌-◌, ◌<◌, ◌≤◌, refl, ap, sym, subst, ◌∙◌, arith, List, [], ◌∷◌, ◌++◌, length, set, take, get_or, Some, None, IsSome, All, AllPairs}
use Rattle.std.specs.Prelude.{slice_get, slice_set, slice_index_or}
use Rattle.std.proofs.lemmas.List.{get_or-set_same, get_or-set_other, length-set, length-append, take_more}
use Rattle.std.proofs.lemmas.List.Elements.{All-push}
use Rattle.std.proofs.Math.ListN.{get_or-append}
use Rattle.std.proofs.lemmas.Bool.{lt-ltb, le-ltb, cases_lt, cases_eq}
use Rattle.std.proofs.Math.Seq.{get_or-append_seam}
use Rattle.slp_model.specs.declared.NodeId.{NodeId}
use Rattle.slp_model.specs.declared.Node.{Node}
use Rattle.slp_model.specs.declared.Node.TheVariants.{Pair}
use Rattle.slp_model.proofs.NodesLemmas.{node-at}
use Rattle.state_tables.specs.Dictionary.{Dictionary, IsDictionary, kept_of, distinct_of, count_of, number_of}
use Rattle.pair_memo.specs.Entries.{Entry}
use Rattle.table_grow.specs.Remembering.{AreTrueEntries}
use Rattle.table_grow.specs.Assignment.{Assignment, number_in, with_number, Fits, AreKept}
use Rattle.table_grow.specs.Filling.{Assigns, AssignsOne, Continues, Filling, IsDue, IsFilledTo, IsNumberOf, IsReady, IsTableOfNode, assigned, filling_of}

-- ---- more tables are kept
pub number_in-kept : (d e : Dictionary) (f : Assignment) (id : ℕ) → AreKept d e → number_in e f id ≡ number_in d f id
number_in-kept d e f id k = ap (λ (x : Dictionary). number_in x f id) k.same

pub entries-kept : (d e : Dictionary) (es : List Entry) → ((n : ℕ) → n < distinct_of d → kept_of e n ≡ kept_of d n) → distinct_of d ≤ distinct_of e → AreTrueEntries d es → AreTrueEntries e es
entries-kept d e es kept more all = λ x c.
    let t = all x c in
    let l = t.left in
    let r = t.right in
    let n = t.number in
    record {
      left = omega (arith, more, l);
      right = omega (arith, more, r);
      number = omega (arith, more, n);
      composed = rw (kept x.1 n, kept x.0.0 l, kept x.0.1 r) t.composed;
    }

pub entries-same : (d e : Dictionary) (es : List Entry) → e.kept ≡ d.kept → AreTrueEntries d es → AreTrueEntries e es
entries-same d e es same = entries-kept d e es (λ n h. ap (λ k. slice_index_or k n []) same) (let size = ap length same in omega (arith, size))

pub kept-refl : (d : Dictionary) → AreKept d d
kept-refl d = record { kept = λ n h. refl; more = omega arith; same = refl }

pub kept-trans : (d e f : Dictionary) → AreKept d e → AreKept e f → AreKept d f
kept-trans d e f k l = record {
  kept = λ n h. let more = k.more in l.kept n (omega (arith, more, h)) ∙ k.kept n h;
  more = let m = k.more in let n = l.more in omega (arith, m, n);
  same = l.same ∙ ap (λ (x : Dictionary). record x { kept = f.kept }) k.same;
}

-- the number of an old or assigned node is that of a kept table
number-kept : (nodes : List Node) (d : Dictionary) (f : Assignment) (j m : ℕ) → IsDictionary d → Fits nodes d f → number_in d f j ≡ Some m → m < distinct_of d
number-kept nodes d f j m is fit h = elim (cases_lt j f.known) [
  | inl lt ↦
      let both : Some (number_of d j) ≡ Some m = rw (lt-ltb j f.known lt) at h in
      let e : number_of d j ≡ m = cc in
      let count = fit.tables_fit in
      subst (λ x. x < distinct_of d) e (is.numbers_kept j (omega (arith, count, lt)))
  | inr ge ↦ fit.kept_fit (j - f.known) m (rw (le-ltb j f.known ge) at h)
]

pub ready-kept : (s : Filling) (e : Dictionary) (es : List Entry) → IsDictionary s.tables → AreKept s.tables e → AreTrueEntries e es → IsReady s
    → IsReady (record s { tables = e; entries = es })
ready-kept s e es dict k entries r = record {
  automaton = r.automaton;
  sound = r.sound;
  fits = record {
    nodes_fit = r.fits.nodes_fit;
    tables_fit = ap count_of k.same ∙ r.fits.tables_fit;
    room_fits = rw (ap (λ (x : Dictionary). x.room) k.same) r.fits.room_fits;
    kept_fit = λ i m h. let old = r.fits.kept_fit i m h in let more = k.more in omega (arith, old, more);
  };
  states = ap (λ (x : Dictionary). x.states) k.same ∙ r.states;
  all = λ j m h.
      let was : assigned s j ≡ Some m = sym (number_in-kept s.tables e s.filler j k) ∙ h in
      rw (k.kept m (number-kept s.nodes s.tables s.filler j m dict r.fits was)) (r.all j m was);
  entries = entries;
}

-- ---- one more node is assigned
in-set : (d : Dictionary) (f : Assignment) (id n j : ℕ) → f.known ≤ id → id < f.known + length f.places
    → ((j ≡ id) × (number_in d (with_number f id n) j ≡ Some n)) ⊎ (number_in d (with_number f id n) j ≡ number_in d f j)
in-set d f id n j new live = elim (cases_eq j id) [
  | inl same ↦ inl (same, rw (same, le-ltb id f.known new) (get_or-set_same f.places (id - f.known) (Some n) None (omega (arith, new, live))))
  | inr other ↦ inr (elim (cases_lt j f.known) [
    | inl lt ↦ rw (lt-ltb j f.known lt) refl
    | inr ge ↦ rw (le-ltb j f.known ge) (get_or-set_other f.places (id - f.known) (j - f.known) (Some n) None (λ e. other (omega (arith, e, ge, new))))
  ])
]

place-fit : (d : Dictionary) (f : Assignment) (at n i m : ℕ) → ((i n : ℕ) → slice_index_or f.places i None ≡ Some n → n < distinct_of d)
    → n < distinct_of d → slice_index_or (slice_set f.places at (Some n)) i None ≡ Some m → at < length f.places → m < distinct_of d
place-fit d f at n i m fit nb h inside = elim (cases_eq i at) [
  | inl same ↦
      let read : get_or (set f.places at (Some n)) i None ≡ Some n = rw same (get_or-set_same f.places at (Some n) None inside) in
      let both : Some n ≡ Some m = sym read ∙ h in
      let nm : n ≡ m = cc in
      subst (λ x. x < distinct_of d) nm nb
  | inr other ↦ fit i m (sym (get_or-set_other f.places at i (Some n) None other) ∙ h)
]

module _ (s : Filling) (id : NodeId) (n : ℕ) (r : IsReady s) (due : IsDue s id) where
  inside : id.index < s.filler.known + length s.filler.places
  inside = let fit = r.fits.nodes_fit in let live = due.live in omega (arith, fit, live)

  pub ready-assigned : IsNumberOf s id.index n → IsReady (record s { filler = with_number s.filler id.index n })
  ready-assigned is =
      let fit = r.fits.nodes_fit in
      let new = due.new in
      let live = due.live in
      let at : id.index - s.filler.known < length s.filler.places = omega (arith, fit, new, live) in
      let len = length-set s.filler.places (id.index - s.filler.known) (Some n) in
      record {
        automaton = r.automaton;
        sound = r.sound;
        fits = record {
          nodes_fit = fit ∙ ap (λ x. s.filler.known + x) (sym len);
          tables_fit = r.fits.tables_fit;
          room_fits = rw len r.fits.room_fits;
          kept_fit = λ i m h. place-fit s.tables s.filler (id.index - s.filler.known) n i m r.fits.kept_fit is.within h at;
        };
        states = r.states;
        all = λ j m h. elim (in-set s.tables s.filler id.index n j new inside) [
          | inl same ↦
              let both : Some n ≡ Some m = sym same.1 ∙ h in
              let nm : n ≡ m = cc in
              subst (λ x. IsTableOfNode s j (kept_of s.tables x)) nm (subst (λ x. IsTableOfNode s x (kept_of s.tables n)) (sym same.0) is.table)
          | inr other ↦ r.all j m (sym other ∙ h)
        ];
        entries = r.entries;
      }

  pub assigns-one : AssignsOne s (record s { filler = with_number s.filler id.index n }) id
  assigns-one =
      let now : Filling = record s { filler = with_number s.filler id.index n } in
      let placed : IsSome (assigned now id.index) =
      rw (le-ltb id.index s.filler.known due.new, get_or-set_same s.filler.places (id.index - s.filler.known) (Some n) None (let new = due.new in let h = inside in omega (arith, new, h))) refl in
      let others : (j : ℕ) → id.index ≢ j → assigned now j ≡ assigned s j = λ j apart. elim (in-set s.tables s.filler id.index n j due.new inside) [
        | inl same ↦ absurd (apart (sym same.0))
        | inr other ↦ other
      ] in
      record {
        continues = record {
          kept = kept-refl s.tables;
          same = refl;
          known = refl;
          still = λ j some. elim (cases_eq id.index j) [
            | inl same ↦ subst (λ i. IsSome (assigned now i)) same placed
            | inr apart ↦ rw (others j apart) some
          ];
        };
        placed = placed;
        others = others;
      }

-- ---- steps one after the other
pub continues-refl : (s : Filling) → Continues s s
continues-refl s = record { kept = kept-refl s.tables; same = refl; known = refl; still = λ id h. h }

pub same-nodes : (s t : Filling) → Continues s t → t.nodes ≡ s.nodes
same-nodes s t k = ap (λ (x : Filling). x.nodes) k.same

pub continues-trans : (s t u : Filling) → Continues s t → Continues t u → Continues s u
continues-trans s t u k l = record {
  kept = kept-trans s.tables t.tables u.tables k.kept l.kept;
  same = l.same ∙ ap (λ (x : Filling). record x { tables = u.tables; filler = u.filler; entries = u.entries }) k.same;
  known = l.known ∙ k.known;
  still = λ id h. l.still id (k.still id h);
}

-- more tables are kept, and the rest is unchanged
pub continues-kept : (s t : Filling) → AreKept s.tables t.tables → t ≡ record s { tables = t.tables; entries = t.entries } → Continues s t
continues-kept s t k same =
    let filler : t.filler ≡ s.filler = ap (λ (x : Filling). x.filler) same in
    record {
      kept = k;
      same = same ∙ ap (λ f. filling_of s.automaton s.nodes t.tables f t.entries) (sym filler);
      known = ap (λ (f : Assignment). f.known) filler;
      still = λ id h. rw (ap (λ f. number_in t.tables f id) filler, number_in-kept s.tables t.tables s.filler id k) h;
    }

pub due-kept : (s t : Filling) (id : NodeId) → AreKept s.tables t.tables → t ≡ record s { tables = t.tables; entries = t.entries } → IsDue s id → IsDue t id
due-kept s t id k same due =
    let number : (j : ℕ) → assigned t j ≡ assigned s j = λ j. ap (λ (x : Filling). number_in t.tables x.filler j) same ∙ number_in-kept s.tables t.tables s.filler j k in
    record {
      new = subst (λ (x : Filling). x.filler.known ≤ id.index) (sym same) due.new;
      live = subst (λ (x : Filling). id.index < length x.nodes) (sym same) due.live;
      free = number id.index ∙ due.free;
      children = λ l r h.
          let two = due.children l r (ap (λ (x : Filling). slice_get x.nodes id.index) (sym same) ∙ h) in
          (rw (number l.index) two.0, rw (number r.index) two.1);
    }

pub number-kept-in : (s t : Filling) (id n : ℕ) → Continues s t → IsNumberOf s id n → IsNumberOf t id n
number-kept-in s t id n k is =
    let more = k.kept.more in
    let below = is.within in
    record {
      within = omega (arith, more, below);
      table = subst (λ (x : Filling). IsTableOfNode x id (kept_of t.tables n)) (sym k.same) (rw (k.kept.kept n below) is.table);
    }

-- steps after more tables are kept
pub assigns-after : (s t u : Filling) (ids : List NodeId) → AreKept s.tables t.tables → t ≡ record s { tables = t.tables; entries = t.entries } → Assigns t u ids → Assigns s u ids
assigns-after s t u ids k same all = record {
  continues = continues-trans s t u (continues-kept s t k same) all.continues;
  placed = all.placed;
  others = λ j apart. all.others j apart ∙ ap (λ (x : Filling). number_in t.tables x.filler j) same ∙ number_in-kept s.tables t.tables s.filler j k;
}

-- ---- the next node in the order of ids
pub due-next : (s t : Filling) (id : ℕ) → IsReady s → Continues s t → IsFilledTo t id → id < length s.nodes → IsDue t (record { index = id })
due-next s t id ready k at live =
    let nodes = same-nodes s t k in
    record {
      new = at.new;
      live = rw nodes live;
      free = at.free id at.new (omega arith);
      children = λ l r pair. let is = node-at s.nodes id (Pair l r) ready.sound (rw nodes at pair) in (at.placed l.index is.1, at.placed r.index is.2);
    }

pub filled-next : (s t : Filling) (id : ℕ) → IsFilledTo s id → AssignsOne s t (record { index = id }) → IsFilledTo t (id + 1)
filled-next s t id at one = record {
  new = let known = one.continues.known in let new = at.new in omega (arith, known, new);
  placed = λ j lt. elim (cases_eq id j) [
    | inl same ↦ subst (λ i. IsSome (assigned t i)) same one.placed
    | inr apart ↦ one.continues.still j (at.placed j (omega (arith, lt, apart)))
  ];
  free = λ j new far. one.others j (omega (arith, far)) ∙ at.free j (subst (λ n. n ≤ j) one.continues.known new) (omega (arith, far));
}

-- ---- lists of nodes
pub all-prefix : {X : Type 0} (P : X → Type 0) (xs : List X) (x : X) → All P (xs ++ x ∷ []) → All P xs
all-prefix P xs x all = λ k d h.
    subst P (get_or-append xs (x ∷ []) d k h) (all k d (let l = length-append xs (x ∷ []) in omega (arith, l, h)))

pub all-last : {X : Type 0} (P : X → Type 0) (xs : List X) (x : X) → All P (xs ++ x ∷ []) → P x
all-last P xs x all =
    subst P (get_or-append_seam xs x [] x) (all (length xs) x (let l = length-append xs (x ∷ []) in omega (arith, l)))

pub assigns-next : (s t u : Filling) (i : ℕ) (ids : List NodeId) (first : NodeId) → i < length ids → Assigns s t (take i ids) → AssignsOne t u (get_or ids i first) → Assigns s u (take (i + 1) ids)
assigns-next s t u i ids first h all one =
    let x = get_or ids i first in
    let is = take_more ids i first h in
    record {
      continues = continues-trans s t u all.continues one.continues;
      placed = subst (All (λ (id : NodeId). IsSome (assigned u id.index))) (sym is)
          (All-push (λ (id : NodeId). IsSome (assigned u id.index)) (take i ids) x (λ k d lt. one.continues.still _ (all.placed k d lt)) one.placed);
      others = λ j apart.
          let split = subst (All (λ (id : NodeId). id.index ≢ j)) is apart in
          one.others j (all-last (λ (id : NodeId). id.index ≢ j) (take i ids) x split) ∙ all.others j (all-prefix (λ (id : NodeId). id.index ≢ j) (take i ids) x split);
    }

-- each element before x is related to it
pub all-before : {X : Type 0} (R : X → X → Type 0) (ys rest : List X) (x : X) → AllPairs R (ys ++ x ∷ rest) → All (λ y. R y x) ys
all-before R ys rest x all = λ k d h.
    let bound : length ys < length (ys ++ x ∷ rest) = (let l = length-append ys (x ∷ rest) in omega (arith, l)) in
    subst (λ y. R y x) (get_or-append ys (x ∷ rest) d k h)
    (subst (R (get_or (ys ++ x ∷ rest) k d)) (get_or-append_seam ys x rest d) (all k (length ys) d h bound))

pub old-some : (d : Dictionary) (f : Assignment) (id : ℕ) → id < f.known → IsSome (number_in d f id)
old-some d f id lt = rw (lt-ltb id f.known lt) refl
