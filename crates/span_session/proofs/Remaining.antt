-- Of what kind the commands are that no arm of a match took.
use Rattle.span_session.proofs.Names.{Command, List, refl, ℕ, ◌≡◌}
use Rattle.std.specs.Prelude.{Bool}
use Rattle.script_syntax.specs.declared.form.Command.TheVariants as form
use Rattle.session_state.specs.Answers.{IsAnswering}
use Rattle.span_session.specs.Kinds.{IsInMemory, IsOnQueries}

-- those that need no file
pub in_memory : (command : Command) → IsAnswering command → ((n f : List ℕ) → command ≡ form.LoadFile n f → ⊥) → ((n f : List ℕ) → command ≡ form.ShareFile n f → ⊥) → ((n f : List ℕ) → command ≡ form.WriteFile n f → ⊥) → ((f : List ℕ) → command ≡ form.SaveFile f → ⊥) → ((f : List ℕ) → command ≡ form.OpenFile f → ⊥)
    → IsInMemory command
in_memory form.Nothing is load share write save opened = is
in_memory form.Names is load share write save opened = is
in_memory (form.List q n s k) is load share write save opened = is
in_memory (form.ListAll q k) is load share write save opened = is
in_memory (form.LoadFile n f) is load share write save opened = load n f refl
in_memory (form.ShareFile n f) is load share write save opened = share n f refl
in_memory (form.WriteFile n f) is load share write save opened = write n f refl
in_memory (form.SaveFile f) is load share write save opened = save f refl
in_memory (form.OpenFile f) is load share write save opened = opened f refl
in_memory _ is load share write save opened = tt

-- those that are about queries alone
pub on_queries : (command : Command) → IsInMemory command → ((n b : List ℕ) → command ≡ form.Text n b → ⊥) → ((n b : List ℕ) → command ≡ form.QuotedText n b → ⊥) → ((n e : List ℕ) → command ≡ form.LetDoc n e → ⊥) → ((n : List ℕ) → command ≡ form.DropDoc n → ⊥) → ((n : List ℕ) (i j : ℕ) → command ≡ form.Show n i j → ⊥)
    → ((n q s b : List ℕ) (l : Bool) → command ≡ form.ReplaceDoc n q s b l → ⊥) → ((n : List ℕ) → command ≡ form.MarkDocs n → ⊥) → ((n : List ℕ) → command ≡ form.UnmarkDocs n → ⊥) → ((n : List ℕ) → command ≡ form.BackDocs n → ⊥) → (command ≡ form.Compact → ⊥) → IsOnQueries command
on_queries form.Nothing is text bytes set drop show replace mark unmark back compact = is
on_queries form.Names is text bytes set drop show replace mark unmark back compact = is
on_queries (form.List q n s k) is text bytes set drop show replace mark unmark back compact = is
on_queries (form.ListAll q k) is text bytes set drop show replace mark unmark back compact = is
on_queries (form.LoadFile n f) is text bytes set drop show replace mark unmark back compact = is
on_queries (form.ShareFile n f) is text bytes set drop show replace mark unmark back compact = is
on_queries (form.WriteFile n f) is text bytes set drop show replace mark unmark back compact = is
on_queries (form.SaveFile f) is text bytes set drop show replace mark unmark back compact = is
on_queries (form.OpenFile f) is text bytes set drop show replace mark unmark back compact = is
on_queries (form.Text n b) is text bytes set drop show replace mark unmark back compact = text n b refl
on_queries (form.QuotedText n b) is text bytes set drop show replace mark unmark back compact = bytes n b refl
on_queries (form.LetDoc n e) is text bytes set drop show replace mark unmark back compact = set n e refl
on_queries (form.DropDoc n) is text bytes set drop show replace mark unmark back compact = drop n refl
on_queries (form.Show n i j) is text bytes set drop show replace mark unmark back compact = show n i j refl
on_queries (form.ReplaceDoc n q s b l) is text bytes set drop show replace mark unmark back compact = replace n q s b l refl
on_queries (form.MarkDocs n) is text bytes set drop show replace mark unmark back compact = mark n refl
on_queries (form.UnmarkDocs n) is text bytes set drop show replace mark unmark back compact = unmark n refl
on_queries (form.BackDocs n) is text bytes set drop show replace mark unmark back compact = back n refl
on_queries form.Compact is text bytes set drop show replace mark unmark back compact = compact refl
on_queries _ is text bytes set drop show replace mark unmark back compact = tt

-- and no others
pub no_query : (command : Command) → IsOnQueries command → ((n f : List ℕ) → command ≡ form.Query n f → ⊥) → ((n : List ℕ) → command ≡ form.Unquery n → ⊥) → ((n l r : List ℕ) → command ≡ form.UnionQuery n l r → ⊥) → ((n l r : List ℕ) → command ≡ form.JoinQuery n l r → ⊥) → ((n s k : List ℕ) → command ≡ form.ProjectQuery n s k → ⊥)
    → ((q n : List ℕ) → command ≡ form.Count q n → ⊥) → ((q n t : List ℕ) → command ≡ form.Rank q n t → ⊥) → ((q n : List ℕ) → command ≡ form.Nonempty q n → ⊥) → ((q n t : List ℕ) → command ≡ form.Has q n t → ⊥) → ⊥
no_query (form.Query n f) is query unquery union join project count rank test has = query n f refl
no_query (form.Unquery n) is query unquery union join project count rank test has = unquery n refl
no_query (form.UnionQuery n l r) is query unquery union join project count rank test has = union n l r refl
no_query (form.JoinQuery n l r) is query unquery union join project count rank test has = join n l r refl
no_query (form.ProjectQuery n s k) is query unquery union join project count rank test has = project n s k refl
no_query (form.Count q n) is query unquery union join project count rank test has = count q n refl
no_query (form.Rank q n t) is query unquery union join project count rank test has = rank q n t refl
no_query (form.Nonempty q n) is query unquery union join project count rank test has = test q n refl
no_query (form.Has q n t) is query unquery union join project count rank test has = has q n t refl
no_query _ is query unquery union join project count rank test has = is
