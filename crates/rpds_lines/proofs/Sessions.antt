-- The answers to some lines and then to others.
use Rattle.std.proofs.Common.{◌≡◌, ◌≢◌, ℕ, List, [], ◌∷◌, ◌++◌, Option, None, Some, IfSome, OnSome, refl, sym, ap, subst, ◌∙◌, append_assoc, append-nil}
use Rattle.std.specs.Io.KnownBytes.{Appends, Consumes, Keeps, IsAtEnd}
use Rattle.std.proofs.KnownBytes.{Appends-nil, Appends-trans, Appends-kept, Consumes-trans, Consumes-whole}
use Rattle.std.proofs.lemmas.List.Elements.{All-nil, All-cons, All-append}
use Rattle.rpds_lines.specs.Sessions.{AnswersEnded, AnswersInput, AnswersLast, AnswersLine, AnswersLines, AnswersWhole}
use Rattle.rpds_lines.specs.Lines.{LacksLineFeed, ended, lines_of}
use Rattle.rpds_lines.specs.SessionState.{SessionState, empty_state}
use Rattle.rpds_lines.proofs.Kept.{stands_none, stands_some}
use Rattle.rpds_lines.proofs.Lines.{ended_append, lines_of_one, lines_of_ended}

-- What is written for one line.
pub written_one : (before after : Option (List ℕ)) (text : List ℕ) → Appends before after (text ++ 10 ∷ []) → Appends before after (ended (text ∷ []))
written_one before after text appended = subst (Appends before after) (sym (append-nil (text ++ 10 ∷ []))) appended

module _ {A : Type 0} where
  answers_both : (t : SessionState A) (lines texts : List (List ℕ)) (u : SessionState A) (more more_texts : List (List ℕ)) (v : SessionState A)
      → AnswersLines t lines texts u → AnswersLines u more more_texts v → AnswersLines t (lines ++ more) (texts ++ more_texts) v
  answers_both t [] [] u more more_texts v first second = subst (λ w. AnswersLines w more more_texts v) first second
  answers_both t (line ∷ lines) (text ∷ texts) u more more_texts v first second =
      (first.0, first.1, answers_both first.0 lines texts u more more_texts v first.2 second)
  answers_both t lines texts u more more_texts v first second = absurd first

  answers_one : (t : SessionState A) (line text : List ℕ) (v : SessionState A) → LacksLineFeed line → line ≢ []
      → AnswersLine t (line ++ []) text v → AnswersLines t (lines_of line) (text ∷ []) v
  answers_one t [] text v lacks some answers = absurd (some refl)
  answers_one t (byte ∷ line) text v lacks some answers =
      subst (λ lines. AnswersLines t lines (text ∷ []) v) (sym (lines_of_one byte line lacks))
      (v, subst (λ l. AnswersLine t l text v) (append-nil (byte ∷ line)) answers, refl)

  -- A last line that no byte more ends.
  pub answers_rest : (t : SessionState A) (kept text : List ℕ) (v : SessionState A) → kept ≢ [] → AnswersEnded t kept [] text v
      → AnswersLast t kept (text ∷ []) v
  answers_rest t kept text v some answers line stands = answers_one t line text v stands.unbroken (stands_some kept line stands some) (answers line stands)

  -- No last line.
  pub answers_none : (t : SessionState A) (kept : List ℕ) → kept ≡ [] → AnswersLast t kept [] t
  answers_none t kept none line stands = subst (λ l. AnswersLines t (lines_of l) [] t) (sym (stands_none kept line stands none)) refl

  -- The same of equal bytes.
  pub whole_same : (t : SessionState A) (before : Option (List ℕ)) (bytes others : List ℕ) (v : SessionState A) (after : Option (List ℕ)) (rest : List ℕ)
      → bytes ≡ others → AnswersWhole t before bytes v after rest → AnswersWhole t before others v after rest
  whole_same t before bytes others v after rest same answered = subst (λ l. AnswersWhole t before l v after rest) same answered

  -- A line that is begun stays as it is where no byte comes.
  pub whole_begun : (t : SessionState A) (before : Option (List ℕ)) (line : List ℕ) → LacksLineFeed line → AnswersWhole t before (line ++ []) t before line
  whole_begun t before line lacks = record {
    lines = [];
    texts = [];
    whole = append-nil line;
    each = All-nil LacksLineFeed;
    partial = lacks;
    answers = refl;
    written = Appends-nil before;
  }

  -- What a session begins with.
  pub whole_new : (before : Option (List ℕ)) (t : SessionState A) → t ≡ empty_state → AnswersWhole empty_state before [] t before []
  whole_new before t none = rw none (whole_begun empty_state before [] (All-nil (λ b. b ≢ 10)))

  -- A line that is answered leaves nothing.
  pub whole_line : (t : SessionState A) (before after : Option (List ℕ)) (line text : List ℕ) (v : SessionState A) → LacksLineFeed line
      → AnswersLine t line text v → Appends before after (text ++ 10 ∷ []) → AnswersWhole t before (line ++ 10 ∷ []) v after []
  whole_line t before after line text v lacks answers appended = record {
    lines = line ∷ [];
    texts = text ∷ [];
    whole = sym (append-nil ((line ++ 10 ∷ []) ++ []) ∙ append-nil (line ++ 10 ∷ []));
    each = All-cons LacksLineFeed line [] lacks (All-nil LacksLineFeed);
    partial = All-nil (λ b. b ≢ 10);
    answers = (v, answers, refl);
    written = written_one before after text appended;
  }

  -- Some bytes, and then more after what they left.
  pub whole_both : (t : SessionState A) (before : Option (List ℕ)) (bytes : List ℕ) (u : SessionState A) (between : Option (List ℕ)) (rest more : List ℕ)
      (v : SessionState A) (after : Option (List ℕ)) (last : List ℕ)
      → AnswersWhole t before bytes u between rest → AnswersWhole u between (rest ++ more) v after last → AnswersWhole t before (bytes ++ more) v after last
  whole_both t before bytes u between rest more v after last first second = record {
    lines = first.lines ++ second.lines;
    texts = first.texts ++ second.texts;
    whole = ap (λ l. l ++ more) first.whole ∙ append_assoc (ended first.lines) rest more ∙ ap (λ l. ended first.lines ++ l) second.whole
        ∙ sym (append_assoc (ended first.lines) (ended second.lines) last) ∙ ap (λ l. l ++ last) (sym (ended_append first.lines second.lines));
    each = All-append LacksLineFeed first.lines second.lines first.each second.each;
    partial = second.partial;
    answers = answers_both t first.lines first.texts u second.lines second.texts v first.answers second.answers;
    written = subst (Appends before after) (sym (ended_append first.texts second.texts)) (Appends-trans before between after _ _ first.written second.written);
  }

  -- Bytes that end no line are kept behind the rest.
  pub whole_more : (t : SessionState A) (before : Option (List ℕ)) (bytes : List ℕ) (u : SessionState A) (after : Option (List ℕ)) (rest more : List ℕ)
      → AnswersWhole t before bytes u after rest → LacksLineFeed (rest ++ more) → AnswersWhole t before (bytes ++ more) u after (rest ++ more)
  whole_more t before bytes u after rest more answered lacks = record {
    lines = answered.lines;
    texts = answered.texts;
    whole = ap (λ l. l ++ more) answered.whole ∙ append_assoc (ended answered.lines) rest more;
    each = answered.each;
    partial = lacks;
    answers = answered.answers;
    written = answered.written;
  }

  -- A line that was cut is ended by more bytes, and answered.
  pub whole_next : (t : SessionState A) (before : Option (List ℕ)) (bytes : List ℕ) (u : SessionState A) (between after : Option (List ℕ))
      (line end text : List ℕ)
      (v : SessionState A) → AnswersWhole t before bytes u between line → LacksLineFeed end
      → AnswersLine u (line ++ end) text v → Appends between after (text ++ 10 ∷ []) → AnswersWhole t before (bytes ++ (end ++ 10 ∷ [])) v after []
  whole_next t before bytes u between after line end text v first lacks answers appended =
      let one = whole_line u between after (line ++ end) text v (All-append (λ b. b ≢ 10) line end first.partial lacks) answers appended in
      let second = subst (λ l. AnswersWhole u between l v after []) (append_assoc line end (10 ∷ [])) one in
      whole_both t before bytes u between line (end ++ 10 ∷ []) v after [] first second

  -- What is written stays where the writer keeps its bytes.
  pub whole_flushed : (t : SessionState A) (before : Option (List ℕ)) (bytes : List ℕ) (v : SessionState A) (after flushed : Option (List ℕ)) (rest : List ℕ)
      → AnswersWhole t before bytes v after rest → Keeps after flushed → AnswersWhole t before bytes v flushed rest
  whole_flushed t before bytes v after flushed rest answered kept = record {
    lines = answered.lines;
    texts = answered.texts;
    whole = answered.whole;
    each = answered.each;
    partial = answered.partial;
    answers = answered.answers;
    written = Appends-kept before after flushed (ended answered.texts) answered.written kept;
  }

  -- All lines of the input, the last one by itself.
  pub input_answered : (before : Option (List ℕ)) (bytes : List ℕ) (t : SessionState A) (between : Option (List ℕ)) (rest : List ℕ) (texts : List (List ℕ))
      (v : SessionState A) (after : Option (List ℕ))
      → AnswersWhole empty_state before bytes t between rest → AnswersLines t (lines_of rest) texts v → Appends between after (ended texts)
      → AnswersInput A bytes before after
  input_answered before bytes t between rest texts v after answered last appended =
      let lines = ap lines_of answered.whole ∙ lines_of_ended answered.lines rest answered.each in (
        answered.texts ++ texts,
        v,
        rw lines (answers_both empty_state answered.lines answered.texts t (lines_of rest) texts v answered.answers last),
        subst (Appends before after) (sym (ended_append answered.texts texts)) (Appends-trans before between after _ _ answered.written appended),
      )

-- A reader that is at its end gave all that it had.
pub all_read : (input between left : Option (List ℕ)) (bytes more : List ℕ) (P : List ℕ → Type 0) → Consumes input between bytes → Consumes between left more
    → OnSome between (IsAtEnd left) → P (bytes ++ more) → IfSome input P
all_read None between left bytes more P first second end given = tt
all_read (Some x) None left bytes more P first second end given = absurd first
all_read (Some x) (Some y) left bytes more P first second end given =
    Consumes-whole (Some x) left (bytes ++ more) P (Consumes-trans (Some x) (Some y) left bytes more first second) end given
