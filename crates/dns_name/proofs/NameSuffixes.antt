-- Two names walked from their starts up to the most labels that both end in.
use Rattle.std.proofs.Common.{◌≡◌, ℕ, ◌+◌, ◌<◌, ◌≤◌, List, [], ◌∷◌, ◌++◌, length, Option, Some, None, refl, sym, ap, subst, ◌∙◌, append_assoc, arith}
use Rattle.std.proofs.Common.{inl, inr}
use Rattle.std.specs.Option.{option_cmp}
use Rattle.std.specs.Prelude.{reverse, MatchOption, IfSome}
use Rattle.std.proofs.Common.{Bor}
use Rattle.std.specs.Str.{str_to_ascii_lowercase}
use Rattle.std.proofs.lemmas.Bool.{cases_order}
use Rattle.std.specs.Ordering.{ordering_then}
use Rattle.std.specs.declared.cmp.Ordering.{Ordering}
use Rattle.std.specs.declared.cmp.Ordering.TheVariants.{Less, Equal, Greater}
use Rattle.std.proofs.lemmas.Cmp.{nat_list_cmp_total, tied_itself}
use Rattle.std.proofs.lemmas.Map.Lookups.{exact_bytes}
use Rattle.std.proofs.lemmas.List.{length-append, map-append, reverse-append}
use Rattle.dns_wire.specs.Reversed.{relative_name, relative_labels}
use Rattle.dns_wire.proofs.Backward.{relative_is}
use Rattle.dns_wire.proofs.Lowered.{lower_wire, lowered_long}
use Rattle.dns_wire.proofs.Walk.{labels_wire-append, wire_long}
use Rattle.dns_name.proofs.NameSameness.{lowered_from_octets}
use Rattle.dns_wire.specs.Agreement.{agreeing_end}
use Rattle.dns_wire.specs.Names.{labels_wire, wire, IsName, lowered}
use Rattle.dns_label.specs.Order.{label_cmp}
use Rattle.dns_name.specs.Order.{key, key_cmp}
use Rattle.dns_name.proofs.Agreed.{low_end, end_low}

-- these labels are the last of all, and the label before them is as given
abbrev pub Following : List (List ℕ) → Option (List ℕ) → List (List ℕ) → Type 0
Following labels None rest = labels ≡ rest
Following labels (Some label) rest = (prefix : List (List ℕ)) × (labels ≡ prefix ++ label ∷ rest)

-- the octets of a label and of those after it
abbrev pub relative_long : List ℕ → List (List ℕ) → ℕ
relative_long label rest = length (labels_wire (label ∷ rest))

-- a label that was passed, with those after it, is longer than what is left of the other name, if it is among the octets
-- that agree
abbrev pub Past : Option (List ℕ) → List (List ℕ) → List (List ℕ) → ℕ → Type 0
Past None rest others agreed = Unit
Past (Some label) rest others agreed = relative_long label rest < agreed → length (labels_wire others) < relative_long label rest

-- the labels that were passed last were not at the same place within the octets that agree
abbrev pub Apart : Option (List ℕ) → Option (List ℕ) → List (List ℕ) → List (List ℕ) → ℕ → Type 0
Apart None other rest others agreed = Unit
Apart (Some label) None rest others agreed = Unit
Apart (Some label) (Some other) rest others agreed = relative_long label rest < agreed → relative_long label rest ≡ relative_long other others → ⊥

pub record Walked (all both rest others : List (List ℕ)) (before other : Option (List ℕ)) (agreed : ℕ) : Type 0 where
  pub left : Following all before rest
  pub right : Following both other others
  pub left_past : Past before rest others agreed
  pub right_past : Past other others rest agreed
  pub apart : Apart before other rest others agreed

pub walked_none : (all both : List (List ℕ)) (agreed : ℕ) → Walked all both all both None None agreed
walked_none all both agreed = record { left = refl; right = refl; left_past = tt; right_past = tt; apart = tt }

-- ---- one label more

label_long : (label : List ℕ) (rest : List (List ℕ)) → relative_long label rest ≡ 1 + length label + length (labels_wire rest)
label_long label rest = omega (arith, length-append label (labels_wire rest))

after_more : (all : List (List ℕ)) (before : Option (List ℕ)) (rest next : List (List ℕ)) (label : List ℕ) → Following all before rest → rest ≡ label ∷ next → Following all (Some label) next
after_more all None rest next label trailing is = ([], trailing ∙ is)
after_more all (Some last) rest next label (prefix, trailing) is = (prefix ++ last ∷ [], trailing ∙ ap (λ l. prefix ++ last ∷ l) is ∙ sym (append_assoc prefix (last ∷ []) (label ∷ next)))

past_less : (other : Option (List ℕ)) (others rest next : List (List ℕ)) (agreed : ℕ) → Past other others rest agreed → length (labels_wire next) ≤ length (labels_wire rest) → Past other others next agreed
past_less None others rest next agreed past less = tt
past_less (Some label) others rest next agreed past less = λ within. omega (arith, past within, less)

pub walked_left : (all both rest next others : List (List ℕ)) (before other : Option (List ℕ)) (label : List ℕ) (agreed : ℕ) → Walked all both rest others before other agreed → rest ≡ label ∷ next → length (labels_wire others) ≤ length (labels_wire rest) → (length (labels_wire rest) < agreed → length (labels_wire rest) ≡ length (labels_wire others) → ⊥) → Walked all both next others (Some label) other agreed
walked_left all both rest next others before other label agreed walked is least apart =
    let long : relative_long label next ≡ length (labels_wire rest) = ap (λ l. length (labels_wire l)) (sym is) in
    let less : length (labels_wire next) ≤ length (labels_wire rest) = omega (arith, long, label_long label next) in
    record {
      left = after_more all before rest next label walked.left is;
      right = walked.right;
      left_past = λ within. longer within long;
      right_past = past_less other others rest next agreed walked.right_past less;
      apart = parted other walked.right_past long;
    } where
      longer : relative_long label next < agreed → relative_long label next ≡ length (labels_wire rest) → length (labels_wire others) < relative_long label next
      longer within long = elim (cases_order (length (labels_wire rest)) (length (labels_wire others))) [
        | inl same ↦ absurd (apart (omega (arith, within, long)) same)
        | inr (inl less) ↦ absurd (omega (arith, less, least))
        | inr (inr more) ↦ omega (arith, more, long)
      ]

      parted : (other : Option (List ℕ)) → Past other others rest agreed → relative_long label next ≡ length (labels_wire rest) → Apart (Some label) other next others agreed
      parted None past long = tt
      parted (Some label') past long = λ within same. omega (arith, past (omega (arith, within, same)), long, same)

pub walked_right : (all both rest others next : List (List ℕ)) (before other : Option (List ℕ)) (label : List ℕ) (agreed : ℕ) → Walked all both rest others before other agreed → others ≡ label ∷ next → length (labels_wire rest) < length (labels_wire others) → Walked all both rest next before (Some label) agreed
walked_right all both rest others next before other label agreed walked is least =
    let long : relative_long label next ≡ length (labels_wire others) = ap (λ l. length (labels_wire l)) (sym is) in
    let less : length (labels_wire next) ≤ length (labels_wire others) = omega (arith, long, label_long label next) in
    record {
      left = walked.left;
      right = after_more both other others next label walked.right is;
      left_past = past_less before rest others next agreed walked.left_past less;
      right_past = λ within. omega (arith, least, long);
      apart = parted before walked.left_past long;
    } where
      parted : (before : Option (List ℕ)) → Past before rest others agreed → relative_long label next ≡ length (labels_wire others) → Apart before (Some label) rest next agreed
      parted None past long = tt
      parted (Some label') past long = λ within same. omega (arith, past within, long, same)

-- ---- where both are at the most labels that both end in

name_after : (prefix rest : List (List ℕ)) → IsName (prefix ++ rest) → IsName rest
name_after [] rest is = is
name_after (label ∷ prefix) rest is =
    name_after prefix rest (record { sizes = is.sizes.1; size = omega (arith, is.size, wire_long (prefix ++ rest), wire_long (label ∷ (prefix ++ rest)), label_long label (prefix ++ rest)) })

wire_split : (prefix rest : List (List ℕ)) → wire (prefix ++ rest) ≡ labels_wire prefix ++ wire rest
wire_split prefix rest = ap (λ l. l ++ 0 ∷ []) (labels_wire-append prefix rest) ∙ append_assoc (labels_wire prefix) (labels_wire rest) (0 ∷ [])

scan_split : (prefix ahead rest others : List (List ℕ)) → agreeing_end (wire (prefix ++ rest)) (wire (ahead ++ others)) ≡ agreeing_end (labels_wire prefix ++ wire rest) (labels_wire ahead ++ wire others)
scan_split prefix ahead rest others = ap (λ l. agreeing_end l (wire (ahead ++ others))) (wire_split prefix rest) ∙ ap (agreeing_end (labels_wire prefix ++ wire rest)) (wire_split ahead others)

-- labels whose octets agree are the same in lowercase
same_after : (prefix ahead rest others : List (List ℕ)) → IsName rest → IsName others → length (labels_wire rest) ≡ length (labels_wire others) → length (labels_wire rest) < agreeing_end (wire (prefix ++ rest)) (wire (ahead ++ others)) → lowered rest ≡ lowered others
same_after prefix ahead rest others is js same within =
    lowered_from_octets rest others is js
    (low_end (labels_wire prefix) (labels_wire ahead) (wire rest) (wire others) (omega (arith, wire_long rest, wire_long others, same)) (omega (arith, wire_long rest, within, scan_split prefix ahead rest others)))

-- and labels that are the same in lowercase have octets that agree
scanned_over : (prefix ahead rest others : List (List ℕ)) → IsName rest → IsName others → lowered rest ≡ lowered others → length (wire rest) ≤ agreeing_end (wire (prefix ++ rest)) (wire (ahead ++ others))
scanned_over prefix ahead rest others is js same =
    omega (arith, scan_split prefix ahead rest others, end_low (labels_wire prefix) (labels_wire ahead) (wire rest) (wire others) (lower_wire rest is.sizes ∙ ap wire same ∙ sym (lower_wire others js.sizes)))

-- labels that are the same at the end do not count
cancelled : (same x y : List (List ℕ)) → key_cmp (same ++ x) (same ++ y) ≡ key_cmp x y
cancelled [] x y = refl
cancelled (label ∷ same) x y = ap (λ o. ordering_then o (key_cmp (same ++ x) (same ++ y))) (tied_itself nat_list_cmp_total label) ∙ cancelled same x y

key_split : (prefix rest : List (List ℕ)) → key (prefix ++ rest) ≡ reverse (lowered rest) ++ key prefix
key_split prefix rest = ap reverse (map-append str_to_ascii_lowercase prefix rest) ∙ reverse-append (lowered prefix) (lowered rest)

order_before : (prefix ahead rest others : List (List ℕ)) → lowered rest ≡ lowered others → key_cmp (key (prefix ++ rest)) (key (ahead ++ others)) ≡ key_cmp (key prefix) (key ahead)
order_before prefix ahead rest others same =
    ap (λ k. key_cmp k (key (ahead ++ others))) (key_split prefix rest ∙ ap (λ l. reverse l ++ key prefix) same)
    ∙ ap (key_cmp (reverse (lowered others) ++ key prefix)) (key_split ahead others)
    ∙ cancelled (reverse (lowered others)) (key prefix) (key ahead)

last_key : (prefix : List (List ℕ)) (label : List ℕ) → key (prefix ++ label ∷ []) ≡ str_to_ascii_lowercase label ∷ key prefix
last_key prefix label = key_split prefix (label ∷ [])

joined_prefix : (prefix : List (List ℕ)) (label : List ℕ) (rest : List (List ℕ)) → prefix ++ label ∷ rest ≡ (prefix ++ label ∷ []) ++ rest
joined_prefix prefix label rest = sym (append_assoc prefix (label ∷ []) rest)

-- the labels just before decide
apart_order : (prefix ahead rest others : List (List ℕ)) (label other : List ℕ) → IsName (prefix ++ label ∷ rest) → IsName (ahead ++ other ∷ others) → lowered rest ≡ lowered others
    → Apart (Some label) (Some other) rest others (agreeing_end (wire (prefix ++ label ∷ rest)) (wire (ahead ++ other ∷ others)))
    → key_cmp (key (prefix ++ label ∷ [])) (key (ahead ++ other ∷ [])) ≡ label_cmp label other
apart_order prefix ahead rest others label other is js same apart =
    ap (λ k. key_cmp k (key (ahead ++ other ∷ []))) (last_key prefix label)
    ∙ ap (key_cmp (str_to_ascii_lowercase label ∷ key prefix)) (last_key ahead other)
    ∙ decided (label_cmp label other) refl where
      tie : label_cmp label other ≡ Equal → ⊥
      tie e =
          let letters : str_to_ascii_lowercase label ≡ str_to_ascii_lowercase other = exact_bytes (str_to_ascii_lowercase label) (str_to_ascii_lowercase other) e in
          let more : lowered (label ∷ rest) ≡ lowered (other ∷ others) = rw (letters, same) refl in
          let over = scanned_over prefix ahead (label ∷ rest) (other ∷ others) (name_after prefix (label ∷ rest) is) (name_after ahead (other ∷ others) js) more in
          let long : relative_long label rest ≡ relative_long other others = omega (arith, lowered_long (label ∷ rest), lowered_long (other ∷ others), wire_long (label ∷ rest), wire_long (other ∷ others), ap (λ l. length (wire l)) more) in
          apart (omega (arith, over, wire_long (label ∷ rest))) long

      decided : (o : Ordering) → label_cmp label other ≡ o → ordering_then (label_cmp label other) (key_cmp (key prefix) (key ahead)) ≡ label_cmp label other
      decided Less e = rw e refl
      decided Equal e = absurd (tie e)
      decided Greater e = rw e refl

abbrev Ordered : (all both rest others : List (List ℕ)) → Option (List ℕ) → Option (List ℕ) → Type 0
Ordered all both rest others before other =
    Apart before other rest others (agreeing_end (wire all) (wire both)) → IsName all → IsName both → length (labels_wire rest) ≡ length (labels_wire others) → length (labels_wire rest) < agreeing_end (wire all) (wire both) → key_cmp (key all) (key both) ≡ option_cmp label_cmp before other

-- the labels after are the same
low_after : (prefix ahead rest others : List (List ℕ)) → IsName (prefix ++ rest) → IsName (ahead ++ others) → length (labels_wire rest) ≡ length (labels_wire others) → length (labels_wire rest) < agreeing_end (wire (prefix ++ rest)) (wire (ahead ++ others)) → lowered rest ≡ lowered others
low_after prefix ahead rest others is js = same_after prefix ahead rest others (name_after prefix rest is) (name_after ahead others js)

ordered_none : (rest others : List (List ℕ)) → Ordered rest others rest others None None
ordered_none rest others apart is js same within = order_before [] [] rest others (low_after [] [] rest others is js same within)

ordered_fewer : (ahead rest others : List (List ℕ)) (other : List ℕ) → Ordered rest (ahead ++ other ∷ others) rest others None (Some other)
ordered_fewer ahead rest others other =
    subst (λ all. Ordered rest all rest others None (Some other)) (sym (joined_prefix ahead other others)) (λ apart is js same within.
    order_before [] (ahead ++ other ∷ []) rest others (low_after [] (ahead ++ other ∷ []) rest others is js same within) ∙ ap (key_cmp []) (last_key ahead other))

ordered_more : (prefix rest others : List (List ℕ)) (label : List ℕ) → Ordered (prefix ++ label ∷ rest) others rest others (Some label) None
ordered_more prefix rest others label =
    subst (λ all. Ordered all others rest others (Some label) None) (sym (joined_prefix prefix label rest)) (λ apart is js same within.
    order_before (prefix ++ label ∷ []) [] rest others (low_after (prefix ++ label ∷ []) [] rest others is js same within) ∙ ap (λ k. key_cmp k []) (last_key prefix label))

ordered_both : (prefix ahead rest others : List (List ℕ)) (label other : List ℕ) → Ordered (prefix ++ label ∷ rest) (ahead ++ other ∷ others) rest others (Some label) (Some other)
ordered_both prefix ahead rest others label other apart is js same within =
    let first = joined_prefix prefix label rest in
    let second = joined_prefix ahead other others in
    let low = low_after (prefix ++ label ∷ []) (ahead ++ other ∷ []) rest others (subst IsName first is) (subst IsName second js) same (rw (first, second) at within) in
    ap (λ l. key_cmp (key l) (key (ahead ++ other ∷ others))) first
    ∙ ap (λ l. key_cmp (key ((prefix ++ label ∷ []) ++ rest)) (key l)) second
    ∙ order_before (prefix ++ label ∷ []) (ahead ++ other ∷ []) rest others low
    ∙ apart_order prefix ahead rest others label other is js low apart

walked_to : (all both rest others : List (List ℕ)) (before other : Option (List ℕ)) → Walked all both rest others before other (agreeing_end (wire all) (wire both)) → IsName all → IsName both → length (labels_wire rest) ≡ length (labels_wire others) → length (labels_wire rest) < agreeing_end (wire all) (wire both) → key_cmp (key all) (key both) ≡ option_cmp label_cmp before other
walked_to all both rest others before other walked = by before other walked.left walked.right walked.apart where
  by : (before other : Option (List ℕ)) → Following all before rest → Following both other others → Ordered all both rest others before other
  by None None left right = subst (λ l. Ordered l both rest others None None) (sym left) (subst (λ l. Ordered rest l rest others None None) (sym right) (ordered_none rest others))
  by None (Some other) left (ahead, right) = subst (λ l. Ordered l both rest others None (Some other)) (sym left) (subst (λ l. Ordered rest l rest others None (Some other)) (sym right) (ordered_fewer ahead rest others other))
  by (Some label) None (prefix, left) right = subst (λ l. Ordered l both rest others (Some label) None) (sym left) (subst (λ l. Ordered (prefix ++ label ∷ rest) l rest others (Some label) None) (sym right) (ordered_more prefix rest others label))
  by (Some label) (Some other) (prefix, left) (ahead, right) = subst (λ l. Ordered l both rest others (Some label) (Some other)) (sym left) (subst (λ l. Ordered (prefix ++ label ∷ rest) l rest others (Some label) (Some other)) (sym right) (ordered_both prefix ahead rest others label other))

pub walked_order : (all both rest others : List (List ℕ)) (before other : Option (List ℕ)) (agreed : ℕ) → agreed ≡ agreeing_end (wire all) (wire both) → Walked all both rest others before other agreed → IsName all → IsName both → length (labels_wire rest) ≡ length (labels_wire others) → length (labels_wire rest) < agreed → key_cmp (key all) (key both) ≡ option_cmp label_cmp before other
walked_order all both rest others before other agreed scanned walked is js same within =
    walked_to all both rest others before other (subst (λ n. Walked all both rest others before other n) scanned walked) is js same (omega (arith, within, scanned))

-- ---- how many steps the last labels take

pub steps_of_label : (before : Option (Bor (List ℕ))) (size old new : ℕ) → MatchOption before (new ≡ old) (λ label. new ≤ old + length label.now) → IfSome before (λ label. length label.now ≤ size) → new ≤ old + size
steps_of_label None size old new cost short = omega (arith, cost)
steps_of_label (Some label) size old new cost short = omega (arith, cost, short)

-- ---- sequences of labels, and their octets

pub relative_size : (bytes : List ℕ) → relative_name bytes ≡ Some (relative_labels bytes) → length bytes ≡ length (labels_wire (relative_labels bytes))
relative_size bytes is = ap length (relative_is bytes (relative_labels bytes) is).1

pub relative_is_name : (bytes : List ℕ) → relative_name bytes ≡ Some (relative_labels bytes) → IsName (relative_labels bytes)
relative_is_name bytes is = (relative_is bytes (relative_labels bytes) is).0

pub relative_less : (bytes rest : List ℕ) (label : List ℕ) → relative_name bytes ≡ Some (relative_labels bytes) → relative_name rest ≡ Some (relative_labels rest) → relative_labels bytes ≡ label ∷ relative_labels rest → length bytes ≡ 1 + length label + length rest
relative_less bytes rest label is js first = omega (arith, relative_size bytes is, relative_size rest js, ap (λ l. length (labels_wire l)) first, label_long label (relative_labels rest))

pub relative_empty : (bytes : List ℕ) → relative_name bytes ≡ Some (relative_labels bytes) → relative_labels bytes ≡ [] → length bytes ≡ 0
relative_empty bytes is none = relative_size bytes is ∙ ap (λ l. length (labels_wire l)) none

-- the roots agree at least
pub roots_agree : (all both : List (List ℕ)) → 0 < agreeing_end (wire all) (wire both)
roots_agree all both = omega (arith, end_low (labels_wire all) (labels_wire both) (0 ∷ []) (0 ∷ []) refl)
