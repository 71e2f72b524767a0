use Rattle.text_commands.proofs.Names.{Answer, Answers, ap, AreLive, arith, assigned_after, at, Command, Compacts, counters, Doc, Does, Files, GivesText, Grows, IfErr}
use Rattle.text_commands.proofs.Names.{IsConsistent, IsErrAnd, List, load_paid, Node, only_documents, Option, PaysFor, plain, plain-grows, put, refl, Registers, Result}
use Rattle.text_commands.proofs.Names.{root_text, rules, SessionState, Sets, shape-text, state_of, Stays, Stop, with_documents, World, world, ℕ, ◌∙◌, ◌≡◌}
use Rattle.script_syntax.specs.declared.form.Command.TheVariants as form
use Rattle.span_language.specs.declared.told.Stop.TheVariants as stop
use Rattle.text_commands.proofs.Facts.{grown_answers, grown_stops}
use Rattle.text_commands.proofs.documents.text.Goals as goal

-- a command that gives these bytes to a document, and costs at most their loading
module _ (h : SessionState) (store : List Node) (docs : List Doc) (number : ℕ) (name bytes : List ℕ) (p q : ℕ) (is : IsConsistent h) (grows : Grows h.store store p q) where
  given_answers : (answer : Answer) → AreLive store docs → Sets (plain store h.docs) name bytes answer.told answer.line.items (plain store docs) → (command : Command) → (Registers command → ⊥) → (Compacts command → ⊥)
      → ((old : World) (looks : ℕ) → PaysFor old command (counters looks p) (counters looks q)) → ((old new : World) (reply : List ℕ) → GivesText old name bytes reply new → Does old command reply new)
      → (files : Option Files) (faults looks places : ℕ) → Answers (at h files faults looks p places) number command (at (record h { store = store; docs = docs }) files faults looks q places) answer
  given_answers answer live sets command other kept paid does files faults looks places =
      let set = assigned_after (plain h.store h.docs) (plain store h.docs) (plain store docs) name bytes bytes answer.told answer.line.items (plain-grows h.store store p q grows h.docs is.live) refl sets in
      grown_answers h store docs number command files files faults faults looks p q places is grows refl answer live other kept (paid (world (state_of h) files) looks) refl
      (rw set.0.0 (does (world (state_of h) files) (world (with_documents (state_of h) (plain store docs)) files) answer.line.items (set.0.1, only_documents (state_of h) (put (plain h.store h.docs) name bytes) (plain store docs) files set.1)))

  given_stops : (r : Result Answer Stop) → IsErrAnd r (λ e. e ≡ stop.NoMemory) → docs ≡ h.docs → (command : Command) → ((old : World) (looks : ℕ) → PaysFor old command (counters looks p) (counters looks q))
      → (files : Option Files) (faults looks places : ℕ) → IfErr r (Stays (at h files faults looks p places) number command (at (record h { store = store; docs = docs }) files faults looks q places))
  given_stops r stopped unchanged command paid files faults looks places =
      grown_stops h store docs number command files files faults faults looks p q places is grows refl r stopped unchanged (paid (world (state_of h) files) looks) (omega arith)

pub returns-in_err-root : goal.returns-in_err-root
returns-in_err-root g c =
    let a = c.args in
    let paid = λ (old : World) (looks : ℕ). load_paid old a.name a.content looks a.pairs.now c.load.new.pairs (rw c.bytes.ensures at c.load.ensures.cost) in
    let stopped = given_stops a.session.now c.load.new.store a.session.now.docs a.number a.name a.content a.pairs.now c.load.new.pairs c.requires.session c.load.ensures.grows c.from_residual.result c.from_residual.ensures.1 refl in
    record { done = search rules; stopped = stopped (form.Text a.name a.content) paid; quoted_done = search rules; quoted_stopped = stopped (form.QuotedText a.name a.content) paid }

pub returns-in_err-answer : goal.returns-in_err-answer
returns-in_err-answer g c =
    let a = c.args in
    let r = c.from_residual-in_err-answer in
    let paid = λ (old : World) (looks : ℕ). load_paid old a.name a.content looks a.pairs.now c.load.new.pairs (rw c.bytes.ensures at c.load.ensures.cost) in
    let stopped = given_stops a.session.now c.load.new.store c.set_document.new.docs a.number a.name a.content a.pairs.now c.load.new.pairs c.requires.session c.load.ensures.grows r.result r.ensures.1 c.in_err-answer.ensures.err in
    record { done = search rules; stopped = stopped (form.Text a.name a.content) paid; quoted_done = search rules; quoted_stopped = stopped (form.QuotedText a.name a.content) paid }

pub returns : goal.returns
returns g c =
    let a = c.args in
    let paid = λ (old : World) (looks : ℕ). load_paid old a.name a.content looks a.pairs.now c.load.new.pairs (rw c.bytes.ensures at c.load.ensures.cost) in
    let sets = rw (ap root_text c.in_ok-root.ensures.tree ∙ shape-text c.bytes.result.now ∙ c.bytes.ensures) at c.in_ok-answer.ensures.ok in
    let answers = given_answers a.session.now c.load.new.store c.set_document.new.docs a.number a.name a.content a.pairs.now c.load.new.pairs c.requires.session c.load.ensures.grows c.in_ok-answer.answer c.set_document.ensures.live sets in
    record {
      done = answers (form.Text a.name a.content) (λ no. no) (λ no. no) paid (λ old new reply h. h);
      stopped = search rules;
      quoted_done = answers (form.QuotedText a.name a.content) (λ no. no) (λ no. no) paid (λ old new reply h. h);
      quoted_stopped = search rules;
    }
