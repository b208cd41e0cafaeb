-- The fields of page headers as the code keeps them: of each struct the last number under each id.
use Rattle.std.specs.Prelude.{ℕ, ℤ, pos, Option, Some, None, unwrap_or}
use Rattle.std.specs.Ordering.{int_eq}
use Rattle.dk_grammar.specs.PageHeaders.{Part, number, inner, numbers_in, inner_under}
use Rattle.dk_grammar.specs.Structs.{FieldValues, last_under, when, first_of_two}
use Rattle.dk_pqmodel.specs.Footer.{◌>=◌, natural32}
use Rattle.dk_pqmodel.specs.Headers.{data_header, data_header_v2, dictionary_header, typed_header}
use Rattle.dk_pqmodel.specs.declared.page.PageHeader.{PageHeader}
use Rattle.dk_pages.specs.declared.numbers.Numbers.{Numbers}
use Rattle.dk_pages.specs.declared.fields.Fields.{Fields}

-- numbers by the ids of their fields
abbrev pub numbers_of : FieldValues ℤ → Numbers
numbers_of numbers = record {
  field_1 = last_under (pos 1) numbers;
  field_2 = last_under (pos 2) numbers;
  field_3 = last_under (pos 3) numbers;
  field_4 = last_under (pos 4) numbers;
  field_5 = last_under (pos 5) numbers;
  field_6 = last_under (pos 6) numbers;
}

abbrev pub header_fields : FieldValues Part → Fields
header_fields parts = record {
  own = numbers_of (numbers_in parts);
  data_page = numbers_of (inner_under (pos 5) parts);
  dictionary_page = numbers_of (inner_under (pos 7) parts);
  data_page_v2 = numbers_of (inner_under (pos 8) parts);
}

-- a number more, under its id
abbrev pub with_number : ℤ → Option ℤ → Numbers → Numbers
with_number id None n = n
with_number id (Some z) n = record {
  field_1 = first_of_two (when (int_eq id (pos 1)) z) n.field_1;
  field_2 = first_of_two (when (int_eq id (pos 2)) z) n.field_2;
  field_3 = first_of_two (when (int_eq id (pos 3)) z) n.field_3;
  field_4 = first_of_two (when (int_eq id (pos 4)) z) n.field_4;
  field_5 = first_of_two (when (int_eq id (pos 5)) z) n.field_5;
  field_6 = first_of_two (when (int_eq id (pos 6)) z) n.field_6;
}

-- an inner header more, under its id
abbrev pub with_inner : ℤ → Numbers → Fields → Fields
with_inner id numbers f = record {
  own = f.own;
  data_page = unwrap_or (when (int_eq id (pos 5)) numbers) f.data_page;
  dictionary_page = unwrap_or (when (int_eq id (pos 7)) numbers) f.dictionary_page;
  data_page_v2 = unwrap_or (when (int_eq id (pos 8)) numbers) f.data_page_v2;
}

-- one field more
abbrev pub with_part : ℤ → Option Part → Fields → Fields
with_part id None f = f
with_part id (Some (number z)) f = record f { own = with_number id (Some z) f.own }
with_part id (Some (inner numbers)) f = with_inner id (numbers_of numbers) f

-- the header that the fields say
abbrev pub data_header_in : ℕ → Numbers → Option PageHeader
data_header_in size n = data_header size n.field_1 n.field_2 n.field_3 n.field_4

abbrev pub dictionary_header_in : ℕ → Numbers → Option PageHeader
dictionary_header_in size n = dictionary_header size n.field_1 n.field_2

abbrev pub data_header_v2_in : ℕ → Numbers → Option PageHeader
data_header_v2_in size n = data_header_v2 size n.field_1 n.field_4 n.field_5 n.field_6

abbrev pub typed_header_in : ℤ → ℕ → Fields → Option PageHeader
typed_header_in type size fields =
    typed_header type (data_header_in size fields.data_page) (dictionary_header_in size fields.dictionary_page) (data_header_v2_in size fields.data_page_v2)

abbrev pub header_in : Fields → Option PageHeader
header_in fields = fields.own.field_1 >= λ type. fields.own.field_3 >= natural32 >= λ size. typed_header_in type size fields
