-- What entries of the tables of directories and files are made of in version 5 (DWARF 5, section 6.2.4.1): contents by their type, and the forms that each may have.
use Rattle.std.specs.Prelude.{ℕ, ◌==◌, Bool, true, false, Option, Some, None, if◌then◌else◌}
use Rattle.std.specs.Option.{option_and_then}
use Rattle.ds_base.specs.DwarfNumbers.{DW_FORM_block, DW_FORM_data1, DW_FORM_data2, DW_FORM_data4, DW_FORM_data8, DW_FORM_data16, DW_FORM_line_strp, DW_FORM_string, DW_FORM_strp, DW_FORM_udata, DW_LNCT_directory_index, DW_LNCT_MD5, DW_LNCT_path, DW_LNCT_size, DW_LNCT_timestamp}
use Rattle.line_read.specs.declared.formats.EntryForm.{EntryForm}
use Rattle.line_read.specs.declared.formats.EntryForm.TheVariants as forms
use Rattle.line_read.specs.declared.formats.EntryItem.{EntryItem}
use Rattle.line_read.specs.declared.formats.EntryItem.TheVariants as items
use Rattle.line_read.specs.declared.formats.NumberForm.TheVariants as numbers
use Rattle.line_read.specs.declared.formats.TextForm.TheVariants as texts

-- the forms
unfoldable pub form_of : ℕ → Option EntryForm
form_of form =
    if form == DW_FORM_string then Some (forms.Text texts.Inline)
    else if form == DW_FORM_strp then Some (forms.Text texts.Str)
    else if form == DW_FORM_line_strp then Some (forms.Text texts.LineStr)
    else if form == DW_FORM_data1 then Some (forms.Number numbers.One)
    else if form == DW_FORM_data2 then Some (forms.Number numbers.Two)
    else if form == DW_FORM_data4 then Some (forms.Number numbers.Four)
    else if form == DW_FORM_data8 then Some (forms.Number numbers.Eight)
    else if form == DW_FORM_udata then Some (forms.Number numbers.Leb)
    else if form == DW_FORM_data16 then Some forms.Wide
    else if form == DW_FORM_block then Some forms.Block
    else None

-- the contents, each in the forms that it may have

abbrev pub path_in : EntryForm → Option EntryItem
path_in (forms.Text form) = Some (items.Path form)
path_in form = None

abbrev pub directory_in : EntryForm → Option EntryItem
directory_in (forms.Number numbers.One) = Some (items.Directory numbers.One)
directory_in (forms.Number numbers.Two) = Some (items.Directory numbers.Two)
directory_in (forms.Number numbers.Leb) = Some (items.Directory numbers.Leb)
directory_in form = None

abbrev pub timestamp_in : EntryForm → Option EntryItem
timestamp_in (forms.Number numbers.Leb) = Some (items.Timestamp numbers.Leb)
timestamp_in (forms.Number numbers.Four) = Some (items.Timestamp numbers.Four)
timestamp_in (forms.Number numbers.Eight) = Some (items.Timestamp numbers.Eight)
timestamp_in forms.Block = Some items.TimestampBlock
timestamp_in form = None

abbrev pub size_in : EntryForm → Option EntryItem
size_in (forms.Number form) = Some (items.Size form)
size_in form = None

abbrev pub digest_in : EntryForm → Option EntryItem
digest_in forms.Wide = Some items.Digest
digest_in form = None

-- a content of a type, in a form
unfoldable pub content_of : ℕ → EntryForm → Option EntryItem
content_of content form =
    if content == DW_LNCT_path then path_in form
    else if content == DW_LNCT_directory_index then directory_in form
    else if content == DW_LNCT_timestamp then timestamp_in form
    else if content == DW_LNCT_size then size_in form
    else if content == DW_LNCT_MD5 then digest_in form
    else Some (items.Other form)

-- a pair of a content type and a form, if the content may have the form
abbrev pub item_of : ℕ → ℕ → Option EntryItem
item_of content form = option_and_then (content_of content) (form_of form)

abbrev pub is_path : EntryItem → Bool
is_path (items.Path form) = true
is_path item = false
