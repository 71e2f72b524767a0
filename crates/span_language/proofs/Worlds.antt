-- Commands that change only the documents, the queries or the versions of a state.
use Rattle.std.proofs.Common.{ap, IsSome, List, Option, refl, Some, subst, sym, ℕ, ◌≡◌}
use Rattle.edge_io.specs.Files.{Files}
use Rattle.query_book.proofs.NameLemmas.{some_value}
use Rattle.span_language.specs.Replies.{ok_text}
use Rattle.span_language.specs.State.{Documents, Named, put, State, taken_out, value_of, with_documents, with_queries, with_versions, world}
use Rattle.span_language.specs.Step.{Carries}
use Rattle.span_language.specs.declared.told.Told.{Told}
use Rattle.span_language.specs.declared.told.Told.TheVariants.{Accepted}
use Rattle.span_types.specs.Query.{Query}
use Rattle.script_syntax.specs.declared.form.Command.TheVariants as form

-- the same state and the same files are the same world
pub same_world : {st su : State} {f g : Option Files} → st ≡ su → f ≡ g → world st f ≡ world su g
same_world same files = λ i. world (same i) (files i)

-- other documents, with the same queries, versions and files
pub only_documents : (st : State) (old new : Documents) (files : Option Files) → new ≡ old → world (with_documents st new) files ≡ world (with_documents st old) files
only_documents st old new files same = ap (λ (d : Documents). world (with_documents st d) files) same

-- other queries, with the same documents, versions and files
pub only_queries : (st : State) (old new : Named Query) (files : Option Files) → new ≡ old → world (with_queries st new) files ≡ world (with_queries st old) files
only_queries st old new files same = ap (λ (q : Named Query). world (with_queries st q) files) same

pub only_versions : (st : State) (old new : Named Documents) (files : Option Files) → new ≡ old → world (with_versions st new) files ≡ world (with_versions st old) files
only_versions st old new files same = ap (λ (v : Named Documents). world (with_versions st v) files) same

pub drop_carries : (st : State) (new : Documents) (number : ℕ) (name text : List ℕ) (told : Told) (reply : List ℕ) (files : Option Files) → value_of st.documents name ≡ Some text → new ≡ taken_out st.documents name → told ≡ Accepted → reply ≡ ok_text
    → Carries (world st files) number (form.DropDoc name) told reply (world (with_documents st new) files)
drop_carries st new number name text told reply files there taken is written = rw is (text, there, written, only_documents st (taken_out st.documents name) new files taken)

pub unquery_carries : (st : State) (new : Named Query) (number : ℕ) (name : List ℕ) (told : Told) (reply : List ℕ) (files : Option Files) → IsSome (value_of st.queries name) → new ≡ taken_out st.queries name → told ≡ Accepted → reply ≡ ok_text
    → Carries (world st files) number (form.Unquery name) told reply (world (with_queries st new) files)
unquery_carries st new number name told reply files there taken accepted written =
    let q = some_value (value_of st.queries name) there in
    subst (λ (t : Told). Carries (world st files) number (form.Unquery name) t reply (world (with_queries st new) files)) (sym accepted)
    (q.0, q.1, written, only_queries st (taken_out st.queries name) new files taken)

pub mark_carries : (st : State) (new : Named Documents) (number : ℕ) (name : List ℕ) (told : Told) (reply : List ℕ) (files : Option Files) → new ≡ put st.versions name st.documents → told ≡ Accepted → reply ≡ ok_text
    → Carries (world st files) number (form.MarkDocs name) told reply (world (with_versions st new) files)
mark_carries st new number name told reply files is accepted written = rw accepted (written, only_versions st (put st.versions name st.documents) new files is)

pub unmark_carries : (st : State) (new : Named Documents) (number : ℕ) (name : List ℕ) (documents : Documents) (told : Told) (reply : List ℕ) (files : Option Files) → value_of st.versions name ≡ Some documents → new ≡ taken_out st.versions name → told ≡ Accepted → reply ≡ ok_text
    → Carries (world st files) number (form.UnmarkDocs name) told reply (world (with_versions st new) files)
unmark_carries st new number name documents told reply files there is accepted written = rw accepted (documents, there, written, only_versions st (taken_out st.versions name) new files is)

pub back_carries : (st : State) (number : ℕ) (name : List ℕ) (documents : Documents) (told : Told) (reply : List ℕ) (files : Option Files) → value_of st.versions name ≡ Some documents → told ≡ Accepted → reply ≡ ok_text
    → Carries (world st files) number (form.BackDocs name) told reply (world (with_documents st documents) files)
back_carries st number name documents told reply files there accepted written = rw accepted (documents, there, written, refl)
