-- The texts of the modules of the prelude. (Maude Manual, chapter 7, "Predefined data modules", and chapter 8, "Object-based programming": these are smaller,
-- and their equations are this project's own.)
use Rattle.std.specs.Prelude.{ℕ, List, ◌++◌, codes}
use Rattle.mw_prelude.specs.declared.modules.Predefined.{Predefined}
use Rattle.mw_prelude.specs.declared.modules.Predefined.TheVariants.{Bool, Nat, Qid, Configuration}

abbrev pub name_of : Predefined → List ℕ
name_of Bool = codes "BOOL"
name_of Nat = codes "NAT"
name_of Qid = codes "QID"
name_of Configuration = codes "CONFIGURATION"

abbrev pub bool_text : List ℕ
bool_text = codes "fmod BOOL is\n"
    ++ codes "  sort Bool .\n"
    ++ codes "  ops true false : -> Bool [ctor] .\n"
    ++ codes "  op not_ : Bool -> Bool [prec 53] .\n"
    ++ codes "  op _and_ : Bool Bool -> Bool [assoc comm prec 55] .\n"
    ++ codes "  op _or_ : Bool Bool -> Bool [assoc comm prec 59] .\n"
    ++ codes "  op _xor_ : Bool Bool -> Bool [assoc comm prec 57] .\n"
    ++ codes "  op _implies_ : Bool Bool -> Bool [prec 61 gather (e E)] .\n"
    ++ codes "  vars A B : Bool .\n"
    ++ codes "  eq true and A = A . eq false and A = false . eq A and A = A .\n"
    ++ codes "  eq true or A = true . eq false or A = A . eq A or A = A .\n"
    ++ codes "  eq not true = false . eq not false = true .\n"
    ++ codes "  eq false xor A = A . eq A xor A = false .\n"
    ++ codes "  eq A implies B = not A or B .\n"
    ++ codes "endfm\n"

abbrev pub nat_text : List ℕ
nat_text = codes "fmod NAT is\n"
    ++ codes "  sorts Zero NzNat Nat .\n"
    ++ codes "  subsorts Zero NzNat < Nat .\n"
    ++ codes "  op s_ : Nat -> NzNat [ctor] .\n"
    ++ codes "  op _+_ : NzNat Nat -> NzNat [assoc comm prec 33] .\n"
    ++ codes "  op _+_ : Nat Nat -> Nat [ditto] .\n"
    ++ codes "  op _*_ : NzNat NzNat -> NzNat [assoc comm prec 31] .\n"
    ++ codes "  op _*_ : Nat Nat -> Nat [ditto] .\n"
    ++ codes "  op sd : Nat Nat -> Nat [comm] .\n"
    ++ codes "  ops _quo_ _rem_ : Nat NzNat -> Nat [prec 31 gather (E e)] .\n"
    ++ codes "  op min : NzNat NzNat -> NzNat [assoc comm] .\n"
    ++ codes "  op min : Nat Nat -> Nat [ditto] .\n"
    ++ codes "  op max : NzNat Nat -> NzNat [assoc comm] .\n"
    ++ codes "  op max : Nat Nat -> Nat [ditto] .\n"
    ++ codes "  ops _<_ _<=_ _>_ _>=_ : Nat Nat -> Bool [prec 37] .\n"
    ++ codes "endfm\n"

abbrev pub qid_text : List ℕ
qid_text = codes "fmod QID is\n"
    ++ codes "  sort Qid .\n"
    ++ codes "endfm\n"

abbrev pub configuration_text : List ℕ
configuration_text = codes "mod CONFIGURATION is\n"
    ++ codes "  sorts Attribute AttributeSet Oid Cid Object Msg Configuration .\n"
    ++ codes "  subsort Attribute < AttributeSet .\n"
    ++ codes "  subsorts Object Msg < Configuration .\n"
    ++ codes "  op none : -> AttributeSet [ctor] .\n"
    ++ codes "  op _,_ : AttributeSet AttributeSet -> AttributeSet [ctor assoc comm id: none] .\n"
    ++ codes "  op <_:_|_> : Oid Cid AttributeSet -> Object [ctor object] .\n"
    ++ codes "  op none : -> Configuration [ctor] .\n"
    ++ codes "  op __ : Configuration Configuration -> Configuration [ctor config assoc comm id: none] .\n"
    ++ codes "endm\n"

abbrev pub text_of : Predefined → List ℕ
text_of Bool = bool_text
text_of Nat = nat_text
text_of Qid = qid_text
text_of Configuration = configuration_text
