use Rattle.std.proofs.Common.{sym}
use Rattle.dns_name.proofs.UnparsedNames.{first_label_type, unparsed_size}
use Rattle.dns_name.proofs.unparsed_name.UnparsedName.pointer_value.Goals as goal

pub bounds-self-0 : goal.bounds-self-0
bounds-self-0 c = (unparsed_size _ _ c.args.self.now.is_name).0

pub returns-then-high-lt-POINTER_TAG : goal.returns-then-high-lt-POINTER_TAG
returns-then-high-lt-POINTER_TAG c = sym ((first_label_type _ _ c.args.self.now.is_name).no_pointer c.if-high-lt-POINTER_TAG.true)

pub bounds-self-1 : goal.bounds-self-1
bounds-self-1 c = ((first_label_type _ _ c.args.self.now.is_name).pointer c.if-high-lt-POINTER_TAG.false).0

pub returns : goal.returns
returns c = rw c.pointer_offset.ensures (sym ((first_label_type _ _ c.args.self.now.is_name).pointer c.if-high-lt-POINTER_TAG.false).2)
