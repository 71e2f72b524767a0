-- Numbers and positions of a query's answers, from those of its automaton.
use Rattle.std.proofs.Common.{◌≡◌, ℕ, zero, suc, ◌-◌, ◌<◌, ◌≤◌, List, length, drop, slice_get, Option, Some, None, IfSome, Result, Ok, Err, IfOk, All, Contains, refl, sym, ap, subst, ◌∙◌, arith}
use Rattle.std.specs.Prelude.{unwrap_or}
use Rattle.std.specs.Option.{option_map}
use Rattle.std.proofs.lemmas.Option.{get_or_from_slice_get, slice_get_within}
use Rattle.span_types.specs.Query.{Query, query_of}
use Rattle.span_types.specs.Rel.{IsAnswersOf}
use Rattle.span_types.specs.Answers.{IsAfter}
use Rattle.span_types.specs.Writes.{blanks}
use Rattle.slp_model.specs.declared.Node.{Node}
use Rattle.slp_model.specs.declared.NodeId.{NodeId}
use Rattle.slp_model.specs.Nodes.{IsLive, IsSound, text_of}
use Rattle.marker_dfa.specs.Deterministic.{DeterministicAutomaton, IsDeterministic, states_of}
use Rattle.span_enum.specs.Members.{Tuple, AreAnswersOf}
use Rattle.span_enum.specs.Listing.{Listing}
use Rattle.span_enum.proofs.Pages.{after-none}
use Rattle.count_tables.specs.Dictionary.{CountDictionary, count_of}
use Rattle.count_tables.specs.Number.{IsCounted, IsNumber}
use Rattle.count_tables.specs.TextIndex.{IsNth}
use Rattle.count_tables.specs.Rank.{IsRank}
use Rattle.query_book.specs.declared.entry.TabledQuery.{TabledQuery}
use Rattle.query_book.specs.Answers.{Defines, HasList, IsListingOf}
use Rattle.query_book.specs.Book.{Book, tabled_of}
use Rattle.query_book.specs.Counting.{AreFirstCounts}
use Rattle.query_book.specs.InHand.{HasAllCounts}
use Rattle.query_book.specs.Kept.{IsSound as is_sound}
use Rattle.query_book.specs.Numbers.{IsCursorAt, IsListingAt, IsNumberOf, IsRankOf, IsSaturated}
use Rattle.query_book.specs.Serving.{HasCounts, IsServed, Serves}
use Rattle.query_book.proofs.Covered.{all-found, short-live}
use Rattle.query_book.proofs.Lent.{query-list}
use Rattle.query_book.proofs.Lists.{list-none}
use Rattle.query_book.proofs.Positions.{after-at, after-last}

some_is : {X : Type 0} {x y : X} → Some x ≡ Some y → x ≡ y
some_is {X} {x} p = ap (λ o. unwrap_or o x) p

length-blanks : (n : ℕ) → length (blanks n) ≡ n
length-blanks zero = refl
length-blanks (suc n) = ap suc (length-blanks n)

contains-at : (ts : List Tuple) (n : ℕ) (u : Tuple) → slice_get ts n ≡ Some u → Contains ts u
contains-at ts n u at = (n, slice_get_within ts n u at, get_or_from_slice_get ts n u u at)

-- the counting tables that are there
pub counts-there : (ns : List Node) (t : TabledQuery) (d : CountDictionary) (root : Option NodeId) → HasAllCounts ns t → IsLive ns root → t.counts ≡ Some d → IsCounted t.query.dfa ns d root
counts-there ns t d root h live there = record { states = some (λ x. x.states ≡ states_of t.query.dfa) h.sound.counts; tables = first.tables; covered = first.covered; live = live-in root live }
  where
    some : (P : CountDictionary → Type 0) → IfSome t.counts P → P d
    some P p = subst (λ o. IfSome o P) there p

    first : AreFirstCounts t.query.dfa ns d
    first = some (AreFirstCounts t.query.dfa ns) h.counts

    number : count_of d ≡ length ns
    number = some_is (sym (ap (λ o. option_map count_of o) there) ∙ h.all)

    live-in : (r : Option NodeId) → IsLive ns r → IfSome r (λ id. id.index < count_of d)
    live-in None l = tt
    live-in (Some id) l = omega (arith, l, number)

pub no-counts : (ns : List Node) (t : TabledQuery) → HasAllCounts ns t → t.counts ≡ None → ⊥
no-counts ns t h none =
    let both : ◌≡◌ {A = Option ℕ} None (Some (length ns)) = sym (ap (λ o. option_map count_of o) none) ∙ h.all in
    let bad : ⊥ = cc both in bad

-- the query of a name
pub counts-found : (ns : List Node) (book : Book) (name : List ℕ) (t : TabledQuery) → Serves ns book → HasCounts (length ns) book name → is_sound t → tabled_of book name ≡ Some t → HasAllCounts ns t
counts-found ns book name t serves counts sound there = record { sound = sound; counts = (all-found (IsServed ns) book.entries name t serves there).counts; all = counts t there }

-- the texts of nodes with counting tables have bytes below 256
bytes-counted : (a : DeterministicAutomaton) (ns : List Node) (d : CountDictionary) (root : Option NodeId) → IsCounted a ns d root → All (λ b. b < 256) (text_of ns root)
bytes-counted a ns d None c = λ k e lt. absurd (omega (arith, lt))
bytes-counted a ns d (Some id) c = (c.tables id.index c.live).bytes

module _ (ns : List Node) (t : TabledQuery) (root : Option NodeId) (h : HasAllCounts ns t) (auto : IsDeterministic t.query.dfa) (nodes : IsSound ns) (live : IsLive ns root) where
  defines : Defines (query_of t.query.tree) t.query.dfa
  defines = h.sound.compiled.defines

  short : length (text_of ns root) ≤ 281474976710656
  short = short-live ns root nodes live

  own : (ts : List Tuple) → AreAnswersOf t.query.dfa (text_of ns root) ts → IsAnswersOf (query_of t.query.tree) (text_of ns root) ts
  own ts are = query-list (query_of t.query.tree) t.query.dfa defines (text_of ns root) ts short are

  pub list-counted : (d : CountDictionary) → IsCounted t.query.dfa ns d root → HasList (text_of ns root) None (query_of t.query.tree)
  list-counted d c = list-none (query_of t.query.tree) t.query.dfa (text_of ns root) defines auto (bytes-counted t.query.dfa ns d root c) short

  pub number-saturated : (n : ℕ) → IsNumber t.query.dfa (text_of ns root) n → IsSaturated (IsNumberOf (query_of t.query.tree) (text_of ns root)) n
  number-saturated n k = record { number = length k.answers; holds = record { all = k.answers; answers = own k.answers k.all; number = refl }; value = k.number }

  pub rank-saturated : (u : Tuple) (n : ℕ) → IsRank t.query.dfa (text_of ns root) u n → IsSaturated (IsRankOf (query_of t.query.tree) (text_of ns root) u) n
  rank-saturated u n k = record { number = k.rank; holds = record { all = k.answers; answers = own k.answers k.all; before = k.counts }; value = k.number }

  pub cursor-first : HasList (text_of ns root) None (query_of t.query.tree) → IsCursorAt (text_of ns root) 1 (query_of t.query.tree) None
  cursor-first l = record { variables = tt; all = l.all; answers = l.answers; after = after-none l.all }

  pub cursor-answer : (m : ℕ) (u : Tuple) → 1 ≤ m - 1 → IsNth t.query.dfa (text_of ns root) (m - 1) (Some u) → IsCursorAt (text_of ns root) m (query_of t.query.tree) (Some u)
  cursor-answer m u first k =
      let member = (k.all.members u).0 (contains-at k.answers (m - 1 - 1) u (sym k.at_position)) in
      let next : suc (m - 1 - 1) ≡ m - 1 = omega (arith, first) in
      record {
        variables = member.size ∙ defines.variables;
        all = k.answers;
        answers = own k.answers k.all;
        after = subst (λ n. IsAfter k.answers (Some u) (drop n k.answers)) next (after-at k.answers (m - 1 - 1) u k.all.rising (λ v c. ((k.all.members v).0 c).size ∙ sym member.size) (sym k.at_position));
      }

  pub cursor-last : (m : ℕ) → 1 ≤ m - 1 → IsNth t.query.dfa (text_of ns root) (m - 1) None → IsCursorAt (text_of ns root) m (query_of t.query.tree) (Some (blanks t.query.dfa.variables))
  cursor-last m first k =
      let next : suc (m - 1 - 1) ≡ m - 1 = omega (arith, first) in
      record {
        variables = length-blanks t.query.dfa.variables ∙ defines.variables;
        all = k.answers;
        answers = own k.answers k.all;
        after = subst (λ n. IsAfter k.answers (Some (blanks t.query.dfa.variables)) (drop n k.answers)) next (after-last k.answers (m - 1 - 1) t.query.dfa.variables (sym k.at_position));
      }

-- an iterator at such a cursor
pub listing-at : {E : Type 0} (r : Result Listing E) (s : List ℕ) (m : ℕ) (q : Query) (cursor : Option Tuple) → IsCursorAt s m q cursor → IfOk r (λ a. IsListingOf s cursor a q) → IfOk r (λ a. IsListingAt s m a q)
listing-at (Ok a) s m q cursor c h = record { cursor = cursor; iterator = h; all = c.all; answers = c.answers; after = c.after }
listing-at (Err e) s m q cursor c h = tt

pub rank-ok : {E : Type 0} (r : Result ℕ E) (P Q : ℕ → Type 0) → ((n : ℕ) → P n → Q n) → IfOk r P → IfOk r Q
rank-ok (Ok n) P Q f h = f n h
rank-ok (Err e) P Q f h = tt
