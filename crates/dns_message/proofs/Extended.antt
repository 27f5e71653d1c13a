-- Octets after an item do not change how it is read.
use Rattle.std.proofs.Common.{◌≡◌, ℕ, List, [], ◌∷◌, ◌++◌, take, drop, Some, sym, ap, subst, ◌∙◌, arith}
use Rattle.std.specs.Int.{Width, byte_len, from_be_bytes}
use Rattle.std.proofs.lemmas.List.{length-append, length-drop, take-append-le, drop-append-le}
use Rattle.dns_wire.proofs.Following.{name_more}
use Rattle.dns_record.specs.InPlace.{NumberAt, DataAt, QuestionAt, RecordAt}
use Rattle.dns_message.specs.Messages.{Item, RecordValue, Question, item_at}
use Rattle.dns_message.specs.Messages.Item.{QuestionItem, RecordItem}
use Rattle.dns_message.specs.Worded.{ItemAt, ItemsAt}
use Rattle.dns_message.proofs.ItemLemmas.{item_is, item_found}

number_more : (contents more : List ℕ) (at : ℕ) (w : Width) (n end : ℕ) → NumberAt contents at w n end → NumberAt (contents ++ more) at w n end
number_more contents more at w n end is =
    let same : take (byte_len w) (drop at (contents ++ more)) ≡ take (byte_len w) (drop at contents) =
    ap (take (byte_len w)) (drop-append-le at contents more (omega (arith, is.end_is, is.within)))
    ∙ take-append-le (byte_len w) (drop at contents) more (omega (arith, is.end_is, is.within, length-drop at contents)) in
    record { end_is = is.end_is; within = omega (arith, is.within, length-append contents more); is = is.is ∙ ap (from_be_bytes w) (sym same) }

question_more : (contents more : List ℕ) (at : ℕ) (q : Question) (end : ℕ) → QuestionAt contents at q end → QuestionAt (contents ++ more) at q end
question_more contents more at q end is = record {
  name_end = is.name_end;
  type_end = is.type_end;
  name = name_more contents more at q.name is.name_end is.name;
  qtype = number_more contents more _ _ _ _ is.qtype;
  class = number_more contents more _ _ _ _ is.class;
}

-- data are read up to the end of their record alone
record_more : (contents more : List ℕ) (at : ℕ) (r : RecordValue) (end : ℕ) → RecordAt contents at r end → RecordAt (contents ++ more) at r end
record_more contents more at r end is = record {
  owner_end = is.owner_end;
  type_end = is.type_end;
  class_end = is.class_end;
  ttl_end = is.ttl_end;
  size = is.size;
  size_end = is.size_end;
  owner = name_more contents more at r.owner is.owner_end is.owner;
  rtype = number_more contents more _ _ _ _ is.rtype;
  class = number_more contents more _ _ _ _ is.class;
  ttl = number_more contents more _ _ _ _ is.ttl;
  size_is = number_more contents more _ _ _ _ is.size_is;
  end_is = is.end_is;
  within = omega (arith, is.within, length-append contents more);
  content = subst (λ (l : List ℕ). DataAt r.rtype l is.size_end r.content) (sym (take-append-le end contents more is.within)) is.content;
}

occurs_more : (section : ℕ) (contents more : List ℕ) (at : ℕ) (item : Item) (end : ℕ) → ItemAt section contents at item end → ItemAt section (contents ++ more) at item end
occurs_more section contents more at (QuestionItem q) end is = (is.0, question_more contents more at q end is.1)
occurs_more section contents more at (RecordItem r) end is = (is.0, record_more contents more at r end is.1)

pub item_more : (section : ℕ) (contents more : List ℕ) (at : ℕ) (item : Item) (end : ℕ) → item_at section contents at ≡ Some (item, end) → item_at section (contents ++ more) at ≡ Some (item, end)
item_more section contents more at item end e =
    item_found section (contents ++ more) at item end (occurs_more section contents more at item end (item_is section contents at item end e))

pub items_more : (contents more : List ℕ) (slots : List (ℕ × ℕ)) (at : ℕ) (items : List Item) (end : ℕ) → ItemsAt contents slots at items end → ItemsAt (contents ++ more) slots at items end
items_more contents more [] at items end is = is
items_more contents more (slot ∷ slots) at items end (item, next, others, here, items-is, later) =
    (item, next, others, occurs_more slot.0 contents more at item next here, items-is, items_more contents more slots next others end later)
