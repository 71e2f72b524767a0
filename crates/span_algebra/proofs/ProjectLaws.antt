-- The automaton of a projection.
use Rattle.std.proofs.Common.{◌≡◌, ℕ, ◌+◌, ◌^◌, ◌<◌, ◌≤◌, ◌↔◌, Bool, true, false, List, [], length, Option, Contains, refl, sym, ap, subst, ◌∙◌, arith}
use Rattle.formula_law.specs.Accepts.{MarkedText, marked_text}
use Rattle.formula_law.specs.Law.{bytes_of}
use Rattle.span_types.specs.Rel.{Assignment, IsRestriction, named, has_name}
use Rattle.span_types.proofs.NameLaws.{named-none}
use Rattle.marker_nfa.specs.Automaton.{Automaton, Moves, AcceptsText, IsAutomaton, IsMarked}
use Rattle.marker_nfa.specs.Parts.{Adds}
use Rattle.marker_nfa.specs.declared.nfa.Edge.{Edge}
use Rattle.marker_nfa.specs.declared.nfa.End.{End}
use Rattle.marker_nfa.proofs.Adding.{from_none}
use Rattle.marker_nfa.proofs.Accepting.{reaches_by}
use Rattle.marker_dfa.specs.Deterministic.{DeterministicAutomaton, IsDeterministic, AcceptsSame, states_of}
use Rattle.span_algebra.specs.declared.classes.Class.{Class}
use Rattle.span_algebra.specs.Renaming.{tuple_for}
use Rattle.span_algebra.specs.TreeAutomaton.{ProjectStep, ProjectEnd}
use Rattle.span_algebra.specs.Answers.{AreBytes, IsText, AnswersBy, GivesProjection}
use Rattle.span_algebra.specs.Making.{AreClasses, AreIndicesOf, IsCopiedEdge, IsCopiedEnd, HasParts, IsProjectNfa}
use Rattle.span_algebra.proofs.NameLaws.{length-for, named-for}
use Rattle.span_algebra.proofs.TextLaws.{bytes-word, lies-for}
use Rattle.span_algebra.proofs.CopyLaws.{Renamed, renamed, back, answer-of, answer-from}
use Rattle.span_algebra.proofs.AcceptLaws.{made, renamed-marked}
use Rattle.span_algebra.proofs.PartLaws.{step-of, edge-of, end-of, of-end, mark-within, end-mark-within, states-within, end-state-within}

module _ (a : DeterministicAutomaton) (va keep : List (List ℕ)) (da : IsDeterministic a) (size : length va ≡ a.variables) (few : length keep ≤ 8) (n : Automaton) (is : HasParts (states_of a) (ProjectStep a va keep) (ProjectEnd a va keep) n) where
  accepted-to : (w : MarkedText) → AcceptsText n w → Renamed keep va 0 a w
  accepted-to w h =
      let start : 0 ≡ 0 + 0 = refl in
      renamed keep va 0 a w (back keep va 0 a (ProjectStep a va keep) (ProjectEnd a va keep) w.pairs 0 0 h.state w.last (λ o q m c p e lt s. s) (λ o q m e lt s. s) da.within start da.has_start (reaches_by (Moves n) (ProjectStep a va keep) is.step_to 0 w.pairs h.state h.reaches) (is.end_to h.state w.last h.ends))

  pub project-marked : (w : MarkedText) → length w.pairs ≤ 281474976710656 → AcceptsText n w → IsMarked (length keep) w
  project-marked w short h = renamed-marked keep va 0 a w few short da size (accepted-to w h)

  pub gives-projection : (d : DeterministicAutomaton) → d.variables ≡ length keep → AcceptsSame n d → GivesProjection a va keep d
  gives-projection d variables same = record { variables = variables; answers = λ s r text. (to s r text, from s r text) }
    where
      to : (s : List ℕ) (r : Assignment) → IsText s → AnswersBy d keep s r → IsRestriction keep (AnswersBy a va s) r
      to s r text h =
          let g = answer-of keep va 0 a s h.tuple da size few text.short h.size h.fits.lies (accepted-to (marked_text s h.tuple) ((same.texts (marked_text s h.tuple)).0 h.fits.accepted)) in
          record {
            whole = named va g.tuple;
            in_whole = record { tuple = g.tuple; size = g.size; fits = g.answer; read = λ m. refl };
            kept = λ m e. h.read m ∙ ap (λ t. named keep t m) g.same ∙ named-for keep va g.tuple m e;
            no_other = λ m e. h.read m ∙ named-none keep h.tuple m e;
          }

      from : (s : List ℕ) (r : Assignment) → IsText s → IsRestriction keep (AnswersBy a va s) r → AnswersBy d keep s r
      from s r text h =
          let u = h.in_whole.tuple in
          let t = tuple_for keep va u in
          let w = marked_text s t in
          let bytes : AreBytes (bytes_of w.pairs) = subst (λ (l : List ℕ). AreBytes l) (sym (bytes-word _ 1 s)) text.bytes in
          record {
            tuple = t;
            size = length-for keep va u;
            fits = record {
              size = length-for keep va u ∙ sym variables;
              lies = lies-for (length s) keep va u h.in_whole.fits.lies;
              accepted = (same.texts w).1 (made (states_of a) (ProjectStep a va keep) (ProjectEnd a va keep) n is keep va 0 a (λ o m c p x. x) (λ o m x. x) w bytes (answer-from keep va 0 a s u h.in_whole.size h.in_whole.fits));
            };
            read = λ m. by m (has_name keep m) refl;
          }
        where
          by : (m : List ℕ) (b : Bool) → has_name keep m ≡ b → r m ≡ named keep (tuple_for keep va h.in_whole.tuple) m
          by m true e = h.kept m e ∙ h.in_whole.read m ∙ sym (named-for keep va h.in_whole.tuple m e)
          by m false e = h.no_other m e ∙ sym (named-none keep (tuple_for keep va h.in_whole.tuple) m e)

pub project-made : (a : DeterministicAutomaton) (va keep : List (List ℕ)) (places : List (Option ℕ)) (classes : List Class) (states variables : ℕ) (e0 e1 : List Edge) (f0 f1 : List End)
    → AreIndicesOf keep va places → AreClasses a classes → IsDeterministic a → length va ≡ a.variables → length keep ≤ 8 → states ≡ states_of a → variables ≡ length keep
    → e0 ≡ [] → Adds e0 e1 (IsCopiedEdge a places 0 classes) → f0 ≡ [] → Adds f0 f1 (IsCopiedEnd a places 0)
    → IsAutomaton (record { states = states; variables = variables; edges = e1; ends = f1 }) × IsProjectNfa a va keep (record { states = states; variables = variables; edges = e1; ends = f1 })
project-made a va keep places classes states variables e0 e1 f0 f1 pl ca da size few states_is variables_is ez eh fz fh = (whole, record { variables = variables_is; parts = parts })
  where
    edges : (e : Edge) → Contains e1 e ↔ IsCopiedEdge a places 0 classes e
    edges = from_none e0 e1 (IsCopiedEdge a places 0 classes) ez eh

    ends : (e : End) → Contains f1 e ↔ IsCopiedEnd a places 0 e
    ends = from_none f0 f1 (IsCopiedEnd a places 0) fz fh

    parts : HasParts (states_of a) (ProjectStep a va keep) (ProjectEnd a va keep) (record { states = states; variables = variables; edges = e1; ends = f1 })
    parts = record {
      states = states_is;
      step_to = λ o m c p s. step-of keep va 0 a places classes pl ca o m c p s.edge ((edges s.edge).0 s.among) s.from s.mark s.letter s.to;
      step_from = λ o m c p s. (let k = edge-of keep va 0 a places classes pl ca o m c p s in record { edge = k.0; among = (edges k.0).1 k.1; from = k.2; mark = k.3; letter = k.4; to = k.5 });
      end_to = λ o m s. end-of keep va 0 a places classes pl ca o m ((ends (record { state = o; mark = m })).0 s);
      end_from = λ o m s. (ends (record { state = o; mark = m })).1 (of-end keep va 0 a places classes pl ca o m s);
    }

    whole : IsAutomaton (record { states = states; variables = variables; edges = e1; ends = f1 })
    whole = record {
      has_start = omega (arith, states_is, da.has_start);
      few_variables = omega (arith, variables_is, few);
      edges_within = λ e c. states-within keep va 0 a places classes pl ca states e da (omega (arith, states_is)) ((edges e).0 c);
      ends_within = λ e c. end-state-within keep va 0 a places classes pl ca states e (omega (arith, states_is)) ((ends e).0 c);
      wellmarked = record {
        edge_marks = λ e c. subst (λ (k : ℕ). e.mark < 4 ^ k) (sym variables_is) (mark-within keep va 0 a places classes pl ca e ((edges e).0 c));
        end_marks = λ e c. subst (λ (k : ℕ). e.mark < 4 ^ k) (sym variables_is) (end-mark-within keep va 0 a places classes pl ca e ((ends e).0 c));
        accepted = λ w short h. subst (λ (k : ℕ). IsMarked k w) (sym variables_is) (project-marked a va keep da size few (record { states = states; variables = variables; edges = e1; ends = f1 }) parts w short h);
      };
    }
