-- What is kept of the last answer: its marks, and the nodes ahead of each.
use Rattle.std.specs.Prelude.{zero, suc, ◌≡◌, ℕ, ◌+◌, ◌-◌, ◌*◌, ◌<◌, ◌≤◌, Bool, true, false, List, [], ◌∷◌, ◌++◌, length, take, slice_get, bit_and, Option, Some, None}
use Rattle.span_types.specs.Places.{AreSpans}
use Rattle.span_types.specs.Marks.{mark_of}
use Rattle.span_types.specs.Words.{Marked, mark_count}
use Rattle.span_types.specs.Writes.{write_mark, cut, blanks}
use Rattle.span_types.specs.Fibonacci.{height_limit}
use Rattle.slp_model.specs.Tree.{text, height}
use Rattle.slp_model.specs.Nodes.{tree, text_of}
use Rattle.formula_law.specs.Law.{bytes_of}
use Rattle.marker_dfa.specs.Deterministic.{DeterministicAutomaton, IsDeterministic, states_of}
use Rattle.state_tables.specs.StateSet.{member}
use Rattle.state_tables.specs.Meaning.{plain}
use Rattle.state_tables.specs.Table.{marked_of}
use Rattle.state_tables.specs.Dictionary.{IsLook}
use Rattle.span_enum.specs.Members.{Tuple}
use Rattle.span_enum.specs.Letters.{step_of, reached}
use Rattle.span_enum.specs.Listing.{IsReady}
use Rattle.span_enum.specs.Ends.{AreFinals}
use Rattle.span_enum.specs.Tuples.{word_over, write_word, end_mark}
use Rattle.span_enum.specs.Between.{AreBetween}
use Rattle.span_enum.specs.Quiet.{AreQuietFinals, IsQuiet, AreQuiet, EndsIn}
use Rattle.span_enum.specs.Next.{NoneAfter, IsNext}
use Rattle.span_enum.specs.Words.{CanRun, IsFirst, IsGreatestMark, IsNoMark}
use Rattle.span_enum.specs.declared.input.EnumerationInput.{EnumerationInput}
use Rattle.span_enum.specs.declared.trail.Ahead.{Ahead}
use Rattle.span_enum.specs.declared.trail.Mark.{Mark}
use Rattle.span_enum.specs.declared.trail.WalkPosition.{WalkPosition}
use Rattle.span_enum.specs.declared.trail.Resumption.{Resumption}
use Rattle.span_enum.specs.declared.walk.Lowered.{Lowered}
use Rattle.span_enum.specs.declared.enumeration.Found.{Found}

-- the tables are those of the automaton, whose states have a bit each, the root is there, and the final states and the
-- quiet ones among them are known
pub record IsEnumerationInput {words : ℕ} (g : EnumerationInput words) : Type 0 where
  pub ready : IsReady g.dfa.now g.view.store.now g.view.tables.now g.root
  pub automaton : IsDeterministic g.dfa.now
  pub wide : states_of g.dfa.now ≤ 64 * words
  pub narrow : words ≤ 16
  pub all : AreFinals g.dfa.now g.finals
  pub quiet : AreQuietFinals g.dfa.now g.quiet

-- the whole text
abbrev pub whole_text : {words : ℕ} → EnumerationInput words → List ℕ
whole_text g = text_of g.view.store.now g.root

-- the text of a node
abbrev pub text_at : {words : ℕ} → EnumerationInput words → ℕ → List ℕ
text_at g id = text (tree g.view.store.now id)

abbrev pub height_at : {words : ℕ} → EnumerationInput words → ℕ → ℕ
height_at g id = height (tree g.view.store.now id)

-- a node ahead is one of the store, with its length and table, and its text ends within the limit
pub record IsAhead {words : ℕ} (g : EnumerationInput words) (h : Ahead words) : Type 0 where
  pub live : h.id.index < length g.view.store.now
  pub look : IsLook g.view.store.now g.view.tables.now h.id.index h.look.node h.look.len h.look.table.now
  pub positive : 1 ≤ h.at
  pub low : h.at + length (text_at g h.id.index) ≤ 281474976710657

-- the list has h at this index, counted from 1, and the node that h names as the next one comes before it
pub record HasAhead {words : ℕ} (hs : List (Option (Ahead words))) (place : ℕ) (h : Ahead words) : Type 0 where
  pub before : ℕ
  pub counted : place ≡ suc before
  pub there : slice_get hs before ≡ Some (Some h)
  pub earlier : h.next ≤ before

-- the nodes ahead, from the one with this index in the list on
abbrev pub AreAhead : {words : ℕ} → List (Option (Ahead words)) → ℕ → List (Ahead words) → Type 0
AreAhead hs place [] = place ≡ 0
AreAhead hs place (h ∷ c) = HasAhead hs place h × AreAhead hs h.next c

-- their text
abbrev pub text_ahead : {words : ℕ} → EnumerationInput words → List (Ahead words) → List ℕ
text_ahead g [] = []
text_ahead g (h ∷ c) = text_at g h.id.index ++ text_ahead g c

-- each node begins where the one before it ends, the first at this position
abbrev pub Join : {words : ℕ} → EnumerationInput words → ℕ → List (Ahead words) → Type 0
Join g at [] = Unit {0}
Join g at (h ∷ c) = (h.at ≡ at) × Join g (at + length (text_at g h.id.index)) c

-- of the states reached from p over s and then over the nodes up to one, its goals are those from which the rest is accepted. From its quiet states
-- the rest has no marks
abbrev pub AreGoals : {words : ℕ} → EnumerationInput words → ℕ → List ℕ → List (Ahead words) → Type 0
AreGoals g p s [] = Unit {0}
AreGoals g p s (h ∷ c) = IsAhead g h × AreBetween g.dfa.now p (s ++ text_at g h.id.index) (text_ahead g c) g.finals h.goals × AreGoals g p (s ++ text_at g h.id.index) c
    × AreQuiet g.dfa.now h.quiet (text_ahead g c) g.finals

-- if the walk's position is marked as quiet, the rest has no marks
abbrev pub IsQuietPosition : {words : ℕ} → EnumerationInput words → WalkPosition → List (Ahead words) → Type 0
IsQuietPosition g place c = place.quiet ≡ true → IsQuiet g.dfa.now place.state (text_ahead g c) g.finals

-- at this position the walk is in a state, and these are the nodes ahead
pub record IsWalkAt {words : ℕ} (g : EnumerationInput words) (hs : List (Option (Ahead words))) (at : ℕ) (place : WalkPosition) (c : List (Ahead words)) : Type 0 where
  pub ahead : AreAhead hs place.next c
  pub join : Join g at c
  pub goals : AreGoals g place.state [] c
  pub state : place.state < states_of g.dfa.now
  pub quiet : IsQuietPosition g place c

-- from there the rest is accepted with some marks
abbrev pub CanEnd : {words : ℕ} → EnumerationInput words → ℕ → List (Ahead words) → Type 0
CanEnd g p c = CanRun g.dfa.now p (text_ahead g c) g.finals

-- the rest is accepted with at most `most` marks
abbrev pub AtMost : {words : ℕ} → EnumerationInput words → ℕ → List (Ahead words) → ℕ → Type 0
AtMost g p c most = (w : Marked) (r : ℕ) → bytes_of w ≡ text_ahead g c → reached g.dfa.now p w ≡ Some r → member g.finals r ≡ true → mark_count w ≤ most

-- what the walk needs to continue
pub record CanContinue {words : ℕ} (g : EnumerationInput words) (hs : List (Option (Ahead words))) (place : WalkPosition) : Type 0 where
  pub at : ℕ
  pub chain : List (Ahead words)
  pub stands : IsWalkAt g hs at place chain
  pub can : CanEnd g place.state chain

-- the next node, if there is one, has a run with marks into its goals
abbrev pub Turns : {words : ℕ} → ℕ → List (Ahead words) → Type 0
Turns q [] = Unit {0}
Turns q (h ∷ c) = bit_and (marked_of h.look.table.now q) h.goals ≡ 0 → ⊥

-- the letters in front are passed without marks, from one state to another
pub record Passed (a : DeterministicAutomaton) (q : ℕ) (s prefix : List ℕ) (to : ℕ) (rest : List ℕ) : Type 0 where
  pub parts : s ≡ prefix ++ rest
  pub step : reached a q (plain prefix) ≡ Some to

-- the first marked text over these nodes is the word and then the first one over those
abbrev pub GoesFirst : {words : ℕ} → EnumerationInput words → ℕ → List (Ahead words) → Marked → ℕ → List (Ahead words) → Type 0
GoesFirst g q c word to back = (w : Marked) (r : ℕ) → IsFirst g.dfa.now to (text_ahead g back) g.finals w r → IsFirst g.dfa.now q (text_ahead g c) g.finals (word ++ w) r

-- nodes in front are passed without marks
pub record Passes {words : ℕ} (g : EnumerationInput words) (hs : List (Option (Ahead words))) (at : ℕ) (from to : WalkPosition) (c : List (Ahead words)) : Type 0 where
  pub prefix : List ℕ
  pub back : List (Ahead words)
  pub passed : Passed g.dfa.now from.state (text_ahead g c) prefix to.state (text_ahead g back)
  pub stands : IsWalkAt g hs (at + length prefix) to back

-- and so does the first marked text
pub record PassesPlain {words : ℕ} (g : EnumerationInput words) (hs : List (Option (Ahead words))) (at : ℕ) (from to : WalkPosition) (c : List (Ahead words)) : Type 0 where
  pub passes : Passes g hs at from to c
  pub can : CanEnd g to.state passes.back
  pub first : GoesFirst g from.state c (plain passes.prefix) to.state passes.back

-- the walk is in this state before a node, after which these come
pub record IsWalkBefore {words : ℕ} (g : EnumerationInput words) (hs : List (Option (Ahead words))) (h : Ahead words) (q : ℕ) (c : List (Ahead words)) : Type 0 where
  pub ahead : AreAhead hs h.next c
  pub join : Join g h.at (h ∷ c)
  pub goals : AreGoals g q [] (h ∷ c)
  pub state : q < states_of g.dfa.now

-- m is a mark over its letter, from its state, and these are the nodes ahead of it
pub record IsMark {words : ℕ} (g : EnumerationInput words) (hs : List (Option (Ahead words))) (m : Mark words) (c : List (Ahead words)) : Type 0 where
  pub ahead : AreAhead hs m.next c
  pub join : Join g (m.at + 1) c
  pub letter : AreBetween g.dfa.now m.state (m.byte ∷ []) (text_ahead g c) g.finals m.goals
  pub goals : AreGoals g m.state (m.byte ∷ []) c
  pub state : m.state < states_of g.dfa.now

-- m is a mark over a letter of the nodes, to which the letters in front lead without marks
pub record Way {words : ℕ} (g : EnumerationInput words) (hs : List (Option (Ahead words))) (at q : ℕ) (c : List (Ahead words)) (m : Mark words) : Type 0 where
  pub prefix : List ℕ
  pub back : List (Ahead words)
  pub passed : Passed g.dfa.now q (text_ahead g c) prefix m.state (m.byte ∷ text_ahead g back)
  pub at_is : m.at ≡ at + length prefix
  pub is_mark : IsMark g hs m back

-- after the mark the rest is accepted
pub record Continues {words : ℕ} (g : EnumerationInput words) (m : Mark words) (to : WalkPosition) (back : List (Ahead words)) : Type 0 where
  pub some : 0 < m.mark
  pub step : step_of g.dfa.now m.state m.mark m.byte ≡ Some to.state
  pub next : to.next ≡ m.next
  pub can : CanEnd g to.state back
  pub quiet : IsQuietPosition g to back

-- m is the first mark of the first marked text over the nodes, from the state before them
pub record Meets {words : ℕ} (g : EnumerationInput words) (hs : List (Option (Ahead words))) (at q : ℕ) (c : List (Ahead words)) (m : Mark words) (to : WalkPosition) : Type 0 where
  pub way : Way g hs at q c m
  pub on : Continues g m to way.back
  pub first : GoesFirst g q c (plain way.prefix ++ (m.mark, m.byte) ∷ []) to.state way.back

-- a node this far after the base is as much lower than the tallest tree
abbrev pub FitsAt : {words : ℕ} → EnumerationInput words → ℕ → Option (Ahead words) → Type 0
FitsAt g n None = ⊥
FitsAt g n (Some h) = height_at g h.id.index + n ≤ 68

-- from the base of the list on, each node is at least a level lower than what led to the one before
abbrev pub Fits : {words : ℕ} → EnumerationInput words → ℕ → List (Option (Ahead words)) → Type 0
Fits {words = words} g base hs = (k : ℕ) (o : Option (Ahead words)) → base ≤ k → slice_get hs k ≡ Some o → FitsAt g (k - base) o

-- the walk may descend into the node: there is room for a mark and for the nodes beside the path to it
pub record CanDescend {words : ℕ} (g : EnumerationInput words) (h : Ahead words) (q base : ℕ) (marks : List (Mark words)) (marks_room : ℕ) (hs : List (Option (Ahead words))) (ahead_room : ℕ) : Type 0 where
  pub is_ahead : IsAhead g h
  pub state : q < states_of g.dfa.now
  pub next : h.next ≤ length hs
  pub marks_fit : length marks < marks_room
  pub ahead_fit : base + 69 ≤ ahead_room
  pub low : base ≤ length hs
  pub fits : Fits g base hs
  pub deep : height_at g h.id.index + (length hs - base) ≤ 68

-- the position lies in the node
pub record IsOver {words : ℕ} (g : EnumerationInput words) (h : Ahead words) (position : ℕ) : Type 0 where
  pub from : h.at ≤ position
  pub before : position < h.at + length (text_at g h.id.index)

-- a mark at the letter of a node, from this state
abbrev pub mark_over : {words : ℕ} → Ahead words → ℕ → ℕ → ℕ → ℕ → Mark words
mark_over h byte state mark base = record { at = h.at; mark = mark; byte = byte; state = state; goals = h.goals; next = h.next; base = base }

-- a mark is kept, and the nodes beside the path down to it are put ahead
pub record Keeps {words : ℕ} (g : EnumerationInput words) (base : ℕ) (marks more : List (Mark words)) (old new : List (Option (Ahead words))) : Type 0 where
  pub mark : Mark words
  pub kept : more ≡ marks ++ mark ∷ []
  pub base_is : mark.base ≡ base
  pub beside : List (Option (Ahead words))
  pub ahead : new ≡ old ++ beside
  pub fits : Fits g base new

-- the path down to the first mark was added
pub record Descends {words : ℕ} (g : EnumerationInput words) (h : Ahead words) (q base : ℕ) (marks more : List (Mark words)) (old new : List (Option (Ahead words))) (before after : ℕ) (out out' : Tuple) (to : WalkPosition) : Type 0 where
  pub keeps : Keeps g base marks more old new
  pub meets : (c : List (Ahead words)) → IsWalkBefore g old h q c → CanEnd g q (h ∷ c) → Meets g new h.at q (h ∷ c) keeps.mark to
  pub written : out' ≡ write_mark keeps.mark.mark keeps.mark.at out
  pub cost : after ≤ before + 2 * height_at g h.id.index

-- a word was read, which leads to the state. The text after it is left
pub record Leads {words : ℕ} (g : EnumerationInput words) (word : Marked) (q : ℕ) (back : List ℕ) : Type 0 where
  pub parts : whole_text g ≡ bytes_of word ++ back
  pub ends : reached g.dfa.now 0 word ≡ Some q

-- m is the mark of the letter after the word, and its nodes are in the list from its base on
pub record IsKept {words : ℕ} (g : EnumerationInput words) (word : Marked) (hs : List (Option (Ahead words))) (m : Mark words) : Type 0 where
  pub chain : List (Ahead words)
  pub is_mark : IsMark g hs m chain
  pub leads : Leads g word m.state (m.byte ∷ text_ahead g chain)
  pub at_is : m.at ≡ length word + 1
  pub some : 0 < m.mark
  pub low : m.base ≤ length hs
  pub fits : Fits g m.base hs

-- the last of the marks is that of the last letter of the word that has one
pub record LastKept {words : ℕ} (g : EnumerationInput words) (word : Marked) (ms : List (Mark words)) (hs : List (Option (Ahead words))) : Type 0 where
  pub others : List (Mark words)
  pub mark : Mark words
  pub marks_are : ms ≡ others ++ mark ∷ []
  pub before : Marked
  pub bare : List ℕ
  pub word_is : word ≡ before ++ (mark.mark, mark.byte) ∷ plain bare
  pub kept : IsKept g before hs mark

-- these are the marks of the word, of which n letters have one. Those before the last one need only the nodes up to its base
abbrev pub AreKept : {words : ℕ} → EnumerationInput words → ℕ → Marked → List (Mark words) → List (Option (Ahead words)) → Type 0
AreKept g zero word ms hs = (s : List ℕ) × (word ≡ plain s) × (ms ≡ []) × (length hs ≤ 1)
AreKept g (suc n) word ms hs = (last : LastKept g word ms hs) × AreKept g n last.before last.others (take last.mark.base hs)

-- the walk is after a word, and these are the nodes ahead. The marks of the word are kept in the list up to the base
pub record Behind {words : ℕ} (g : EnumerationInput words) (at : ℕ) (place : WalkPosition) (base : ℕ) (word : Marked) (ms : List (Mark words)) (hs : List (Option (Ahead words))) (c : List (Ahead words)) : Type 0 where
  pub at_is : at ≡ length word + 1
  pub stands : IsWalkAt g hs at place c
  pub leads : Leads g word place.state (text_ahead g c)
  pub low : base ≤ length hs
  pub count : ℕ
  pub kept : AreKept g count word ms (take base hs)

-- and the rest is accepted
pub record Begins {words : ℕ} (g : EnumerationInput words) (place : WalkPosition) (base : ℕ) (word : Marked) (ms : List (Mark words)) (hs : List (Option (Ahead words))) : Type 0 where
  pub at : ℕ
  pub chain : List (Ahead words)
  pub behind : Behind g at place base word ms hs chain
  pub can : CanEnd g place.state chain
  pub fits : Fits g base hs

-- the first marked text after the word was found and written, and its marks are kept with those of the word
pub record Finds {words : ℕ} (g : EnumerationInput words) (from : WalkPosition) (word : Marked) (back : List ℕ) (ms : List (Mark words)) (hs : List (Option (Ahead words))) (before after : ℕ) (r : Option ℕ) (old new : Tuple) : Type 0 where
  pub rest : Marked
  pub state : ℕ
  pub ends : EndsIn g.dfa.now r state
  pub first : IsFirst g.dfa.now from.state back g.finals rest state
  pub cost : after ≤ before + 2 * (height_limit (length (whole_text g)) * mark_count rest)
  pub written : (t : Tuple) → old ≡ write_word 1 word t → new ≡ write_word 1 (word ++ rest) t
  pub count : ℕ
  pub kept : AreKept g count (word ++ rest) ms hs

-- the walk can continue after some word
abbrev pub CanFinish : {words : ℕ} → EnumerationInput words → WalkPosition → ℕ → List (Mark words) → List (Option (Ahead words)) → Type 0
CanFinish g from base marks hs = (word : Marked) × Begins g from base word marks hs

-- the first marked text was found for each such word
abbrev pub Completes : {words : ℕ} → EnumerationInput words → WalkPosition → ℕ → List (Mark words) → List (Mark words) → List (Option (Ahead words)) → List (Option (Ahead words)) → ℕ → ℕ → Option ℕ → Tuple → Tuple → Type 0
Completes g from base marks ms old new before after r out out' =
    (word : Marked) (b : Begins g from base word marks old) → Finds g from word (text_ahead g b.chain) ms new before after r out out'

-- nothing is read yet
pub record IsFresh {words : ℕ} (g : EnumerationInput words) (ms : List (Mark words)) (hs : List (Option (Ahead words))) : Type 0 where
  pub no_marks : ms ≡ []
  pub chain : List (Ahead words)
  pub stands : IsWalkAt g hs 1 (record { state = 0; next = length hs; quiet = false }) chain
  pub text_is : text_ahead g chain ≡ whole_text g
  pub one : length hs ≤ 1

-- the marks of a part of the tuple's word are kept, after which nothing that comes after the tuple is accepted
pub record IsTrailOf {words : ℕ} (g : EnumerationInput words) (t : Tuple) (ms : List (Mark words)) (hs : List (Option (Ahead words))) : Type 0 where
  pub read : Marked
  pub left : Marked
  pub back : List ℕ
  pub word_is : word_over t 1 (whole_text g) ≡ read ++ left
  pub parts : whole_text g ≡ bytes_of read ++ back
  pub count : ℕ
  pub kept : AreKept g count read ms hs
  pub none : (q : ℕ) → reached g.dfa.now 0 read ≡ Some q → NoneAfter g.dfa.now q back g.finals left

abbrev pub IsTrail : {words : ℕ} → EnumerationInput words → Option Tuple → List (Mark words) → List (Option (Ahead words)) → Type 0
IsTrail g None ms hs = IsFresh g ms hs
IsTrail g (Some t) ms hs = IsTrailOf g t ms hs

-- the state after the tuple's marks over the text is known, or else no run follows them there or the tuple has no mark at the end
abbrev pub IsStateAt : {words : ℕ} → EnumerationInput words → Option Tuple → Option ℕ → Type 0
IsStateAt g None o = Unit {0}
IsStateAt g (Some t) None = (q : ℕ) → reached g.dfa.now 0 (word_over t 1 (whole_text g)) ≡ Some q → end_mark t (length (whole_text g) + 1) ≡ 0
IsStateAt g (Some t) (Some q) = reached g.dfa.now 0 (word_over t 1 (whole_text g)) ≡ Some q

-- after the tuple's marks over the text, no lower mark is accepted at its end
abbrev pub NoEndAfter : {words : ℕ} → EnumerationInput words → Tuple → ℕ → Type 0
NoEndAfter g t end = (q : ℕ) → reached g.dfa.now 0 (word_over t 1 (whole_text g)) ≡ Some q → (m : ℕ) → IsNoMark g.dfa.now q 256 1 (end_mark t end) m

-- room for the marks of a tuple of this many variables, and for the nodes ahead of them
pub record HasRoom (variables marks ahead : ℕ) : Type 0 where
  pub marks_fit : 2 * variables ≤ marks
  pub ahead_fits : 1 + 69 * (2 * variables) ≤ ahead

-- ---- the way along the marks of a given tuple
-- the walk is at a position in the word of the tuple, whose marks up to there are kept
pub record Follows {words : ℕ} (g : EnumerationInput words) (t : Tuple) (hs : List (Option (Ahead words))) (at : ℕ) (place : WalkPosition) (ms : List (Mark words)) (c : List (Ahead words)) : Type 0 where
  pub word : Marked
  pub behind : Behind g at place (length hs) word ms hs c
  pub word_is : word_over t 1 (whole_text g) ≡ word ++ word_over t at (text_ahead g c)

-- over some nodes ahead
abbrev pub CanFollow : {words : ℕ} → EnumerationInput words → Tuple → List (Option (Ahead words)) → ℕ → WalkPosition → List (Mark words) → Type 0
CanFollow {words = words} g t hs at place ms = (c : List (Ahead words)) × Follows g t hs at place ms c

-- no run without marks over the text up to this position
abbrev pub Dies : {words : ℕ} → EnumerationInput words → ℕ → ℕ → List ℕ → ℕ → Type 0
Dies g q at s position = reached g.dfa.now q (plain (take (position - at) s)) ≡ None

-- the nodes in front of the position are passed without marks
pub record PassesTo {words : ℕ} (g : EnumerationInput words) (hs : List (Option (Ahead words))) (at position : ℕ) (from to : WalkPosition) (c : List (Ahead words)) : Type 0 where
  pub passes : Passes g hs at from to c
  pub before : at + length passes.prefix ≤ position

-- the position lies before the end of the next node, if there is one
abbrev pub EndsBehind : {words : ℕ} → EnumerationInput words → ℕ → List (Ahead words) → Type 0
EndsBehind g position [] = Unit {0}
EndsBehind g position (h ∷ c) = position < h.at + length (text_at g h.id.index)

-- the path down to the position was added: the tuple's mark there is kept, and the nodes ahead of it
pub record Lays {words : ℕ} (g : EnumerationInput words) (t : Tuple) (h : Ahead words) (q position base : ℕ) (marks more : List (Mark words)) (old new : List (Option (Ahead words))) : Type 0 where
  pub keeps : Keeps g base marks more old new
  pub position_is : keeps.mark.at ≡ position
  pub mark_is : keeps.mark.mark ≡ mark_of t position
  pub way : (c : List (Ahead words)) → IsWalkBefore g old h q c → Way g new h.at q (h ∷ c) keeps.mark

-- no run reaches the position: no mark is kept, and the nodes up to the base are unchanged
pub record Fails {words : ℕ} (g : EnumerationInput words) (h : Ahead words) (q position base : ℕ) (marks more : List (Mark words)) (old new : List (Option (Ahead words))) : Type 0 where
  pub dies : Dies g q h.at (text_at g h.id.index) position
  pub kept : more ≡ marks
  pub ahead : take base new ≡ take base old

-- one of the two
abbrev pub Laid : {words : ℕ} → EnumerationInput words → Tuple → Ahead words → ℕ → ℕ → ℕ → List (Mark words) → List (Mark words) → List (Option (Ahead words)) → List (Option (Ahead words)) → Bool → Type 0
Laid g t h q position base marks more old new true = Lays g t h q position base marks more old new
Laid g t h q position base marks more old new false = Fails g h q position base marks more old new

-- the tuple's marks were kept, as far as a run follows them
pub record Followed {words : ℕ} (g : EnumerationInput words) (t : Tuple) (marks ms : List (Mark words)) (new : List (Option (Ahead words))) (before after : ℕ) (end : Option ℕ) : Type 0 where
  pub trail : IsTrailOf g t ms new
  pub more : ℕ
  pub count : length ms ≡ length marks + more
  pub end_is : end ≡ reached g.dfa.now 0 (word_over t 1 (whole_text g))
  pub cost : after ≤ before + 2 * (height_limit (length (whole_text g)) * more) + 2 * height_limit (length (whole_text g))

-- ---- the last mark that can be lowered
-- m is the last of the marks
abbrev pub IsLast : {words : ℕ} → List (Mark words) → Mark words → Type 0
IsLast ms m = ms ≡ take (length ms - 1) ms ++ m ∷ []

-- the last mark is the one that l lowers
pub record LowersLast {words : ℕ} (g : EnumerationInput words) (ms : List (Mark words)) (l : Lowered) : Type 0 where
  pub mark : Mark words
  pub is_last : IsLast ms mark
  pub at : l.at ≡ mark.at
  pub best : IsGreatestMark g.dfa.now mark.state mark.byte mark.goals mark.mark l.mark l.state

-- the last mark is lowered: after a word that ends with the lower one the first text over the rest is that of the next
-- answer
pub record IsLowered {words : ℕ} (g : EnumerationInput words) (t : Tuple) (l : Lowered) (turn : Resumption) (ms : List (Mark words)) (hs : List (Option (Ahead words))) : Type 0 where
  pub word : Marked
  pub positive : 1 ≤ l.at
  pub inside : l.at ≤ length (whole_text g)
  pub begins : Begins g (record { state = l.state; next = turn.next; quiet = false }) turn.base word ms hs
  pub written : AreSpans t → write_mark l.mark l.at (cut l.at t) ≡ write_word 1 word (blanks (length t))
  pub next : (w : Marked) (r : ℕ) → IsFirst g.dfa.now l.state (text_ahead g begins.chain) g.finals w r
      → IsNext g.dfa.now 0 (whole_text g) g.finals (word_over t 1 (whole_text g)) (word ++ w) r

-- ---- the next answer
-- the rest was completed, and the greatest mark was written at the end
pub record Finishes {words : ℕ} (g : EnumerationInput words) (from : WalkPosition) (base : ℕ) (marks ms : List (Mark words)) (old new : List (Option (Ahead words))) (before after : ℕ) (out : Tuple) (end : ℕ) (found : Found) : Type 0 where
  pub written : Tuple
  pub mark : ℕ
  pub completes : Completes g from base marks ms old new before after found.state out written
  pub greatest : (q : ℕ) → EndsIn g.dfa.now found.state q → IsGreatestMark g.dfa.now q 256 1 65536 mark 0
  pub tuple_is : found.tuple ≡ write_mark mark end written
