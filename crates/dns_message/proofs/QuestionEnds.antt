-- Questions whose name was read before.
use Rattle.std.proofs.Common.{◌≡◌, ℕ, ◌∙◌, List, [], Option, Some, None, refl, ap}
use Rattle.std.specs.Int.{w16}
use Rattle.std.specs.Option.{MatchOption}
use Rattle.dns_wire.specs.Octets.{Labels}
use Rattle.dns_wire.specs.Pointers.{name_at}
use Rattle.dns_wire.specs.Reading.{number, plain_at}
use Rattle.dns_wire.specs.Steps.{◌>>=◌, first_to}
use Rattle.dns_record.specs.Questions.{QuestionOf, question_in}
use Rattle.dns_message.specs.UnparsedRecords.{owner_before}

-- the name in the place of none
abbrev named : Labels → QuestionOf Labels → QuestionOf Labels
named labels q = record { name = labels; qtype = q.qtype; class = q.class }

step : {A B C : Type 0} (h : B → C) (read : Option A) (f : A → Option (C × ℕ)) (g : A → Option (B × ℕ)) → ((a : A) → f a ≡ first_to h (g a)) → (read >>= f) ≡ first_to h (read >>= g)
step h None f g each = refl
step h (Some a) f g each = each a

question_after_name : (contents : List ℕ) (start at : ℕ) (labels : Labels) → name_at contents start ≡ Some (labels, at) → question_in name_at contents start ≡ first_to (named labels) (question_in (owner_before []) contents at)
unfolding question_in
question_after_name contents start at labels is =
    rw is (step (named labels) (plain_at (number w16) contents at) _ _ (λ b. step (named labels) (plain_at (number w16) contents b.1) _ _ (λ c. refl)))

pub no_name_no_question : (contents : List ℕ) (start : ℕ) → name_at contents start ≡ None → question_in name_at contents start ≡ None
unfolding question_in
no_name_no_question contents start none = rw none refl

abbrev pub Ends : (Option (QuestionOf Labels × ℕ)) → Option ℕ → Type 0
Ends read found = MatchOption found (read ≡ None) (λ end. (q : QuestionOf Labels) × (read ≡ Some (q, end)))

pub question_ends : (contents : List ℕ) (start at : ℕ) (labels : Labels) (found : Option ℕ) → name_at contents start ≡ Some (labels, at) → Ends (question_in (owner_before []) contents at) found → Ends (question_in name_at contents start) found
question_ends contents start at labels None is ends = question_after_name contents start at labels is ∙ ap (first_to (named labels)) ends
question_ends contents start at labels (Some end) is ends = (named labels ends.0, question_after_name contents start at labels is ∙ ap (first_to (named labels)) ends.1)
