-- The contents of a sink after several writes.
use Rattle.session_state.proofs.Names.{[], ap, append-nil, append_assoc, Appends, Appends-nil, Appends-trans, AppendsPrefix, arith, drop, Err, IsCut, IsErrAnd, IsSent}
use Rattle.session_state.proofs.Names.{IsUpTo, length, List, MatchResult, min, Ok, Option, Outlet, refl, Result, Stop, subst, sym, take, take-add, take-append-add}
use Rattle.session_state.proofs.Names.{take-append-le, take-append_seam, take_min, Wrote, ℕ, ◌++◌, ◌+◌, ◌∙◌, ◌≡◌, ◌≤◌}
use Rattle.span_language.specs.declared.told.Stop.TheVariants as stop

-- the contract of a call that propagates another call's error
pub passed : {T E : Type 0} (r : Result T E) (P : T → Type 0) (Q : E → Type 0) (e : E) → IsErrAnd r (λ x. x ≡ e) → Q e → MatchResult r P Q
passed (Ok x) P Q e h q = absurd h
passed (Err y) P Q e h q = subst Q (sym h) q

pub more_of_piece : (a b c : Option (List ℕ)) (piece : List ℕ) (done n : ℕ) → Appends a b (take done piece) → Appends b c (take n (drop done piece)) → Appends a c (take (done + n) piece)
more_of_piece a b c piece done n first second =
    subst (λ (l : List ℕ). Appends a c l) (sym (take-add done n piece)) (Appends-trans a b c (take done piece) (take n (drop done piece)) first second)

-- a prefix of a piece, after the pieces before it, is a prefix of the whole
prefix_of_whole : (a b c : Option (List ℕ)) (before piece after whole : List ℕ) → whole ≡ before ++ piece ++ after
    → Appends a b before → AppendsPrefix b c piece → AppendsPrefix a c whole
prefix_of_whole a b c before piece after whole is first (n, second) =
    let m = length before + min n (length piece) in
    let few : min n (length piece) ≤ length piece = omega arith in
    let prefix : take m whole ≡ before ++ take n piece =
    ap (λ (l : List ℕ). take m l) (is ∙ append_assoc before piece after)
    ∙ take-append-add before (piece ++ after) (min n (length piece))
    ∙ ap (λ (l : List ℕ). before ++ l) (take-append-le (min n (length piece)) piece after few ∙ take_min n piece)
    in (m, subst (λ (l : List ℕ). Appends a c l) (sym prefix) (Appends-trans a b c before (take n piece) first second))

-- ---- a listing in progress
pub none_sent : (a : Outlet) → IsSent a [] a
none_sent a = record { appends = Appends-nil a.written; sound = (refl, refl) }

pub starts : (a : Outlet) (whole : List ℕ) → IsUpTo a a whole whole
starts a whole = record { done = []; sent = none_sent a; cut = refl }

pub sent_on : {a b c : Outlet} {whole : List ℕ} (piece left line : List ℕ) → IsUpTo a b (piece ++ left) whole → line ≡ piece → IsSent b line c → IsUpTo a c left whole
sent_on {a} {b} {c} {whole} piece left line h is wrote = record {
  done = h.done ++ piece;
  sent = record {
    appends = Appends-trans a.written b.written c.written h.done piece h.sent.appends (subst (λ (l : List ℕ). Appends b.written c.written l) is wrote.appends);
    sound = (wrote.sound.0 ∙ h.sent.sound.0, wrote.sound.1 ∙ h.sent.sound.1);
  };
  cut = h.cut ∙ sym (append_assoc h.done piece left);
}

pub stops : {a b c : Outlet} {whole : List ℕ} {why : Stop} (piece left line : List ℕ) → IsUpTo a b (piece ++ left) whole → line ≡ piece → IsCut b line c why → IsCut a whole c why
stops {a} {b} {c} {whole} {why} piece left line h is stopped = record {
  prefix = prefix_of_whole a.written b.written c.written h.done piece left whole (h.cut ∙ sym (append_assoc h.done piece left)) h.sent.appends
      (subst (λ (l : List ℕ). AppendsPrefix b.written c.written l) is stopped.prefix);
  later = omega (arith, h.sent.sound.0, stopped.later);
  wants_later = omega (arith, h.sent.sound.1, stopped.wants_later);
  fault = λ e. let has_increased = stopped.fault e in omega (arith, h.sent.sound.0, has_increased);
  no_shelf = stopped.no_shelf;
}

pub waits : {a b : Outlet} {left whole : List ℕ} → IsUpTo a b left whole → IsCut a whole b stop.NoMemory
waits {a} {b} {left} {whole} h = record {
  prefix = (length h.done, subst (λ (l : List ℕ). Appends a.written b.written l) (sym (ap (λ (l : List ℕ). take (length h.done) l) h.cut ∙ take-append_seam h.done left)) h.sent.appends);
  later = omega (arith, h.sent.sound.0);
  wants_later = omega (arith, h.sent.sound.1);
  fault = λ e. let bad : ⊥ = cc e in absurd bad;
  no_shelf = λ e. cc e;
}

pub sent_all : {a b : Outlet} {whole : List ℕ} → IsUpTo a b [] whole → IsSent a whole b
sent_all {a} {b} {whole} h = subst (λ (l : List ℕ). IsSent a l b) (sym (h.cut ∙ append-nil h.done)) h.sent

-- the last piece
pub last : {T : Type 0} {a b : Outlet} {whole : List ℕ} (r : Result T Stop) (c : Outlet) (piece line : List ℕ) → IsUpTo a b piece whole → line ≡ piece → Wrote r b line c → Wrote r a whole c
last {T} {a} {b} {whole} r c piece line h is wrote = by r wrote
  where
    all : IsUpTo a b (piece ++ []) whole
    all = subst (λ (l : List ℕ). IsUpTo a b l whole) (sym (append-nil piece)) h

    by : (q : Result T Stop) → Wrote q b line c → Wrote q a whole c
    by (Ok x) sent = sent_all (sent_on piece [] line all is sent)
    by (Err why) stopped = stops piece [] line all is stopped

-- the whole was written except what is left
pub part : {a b c : Outlet} {left mid whole : List ℕ} → IsUpTo a b mid whole → IsUpTo b c left mid → IsUpTo a c left whole
part {a} {b} {c} {left} {mid} {whole} h p = sent_on p.done left p.done (subst (λ (l : List ℕ). IsUpTo a b l whole) p.cut h) refl p.sent
